use Rattle.std.proofs.Common.{◌≡◌, ◌≤◌, ℕ, drop, length}
use Rattle.room_base.specs.Outside.{Told}
use Rattle.room_disk.specs.Disk.{Quiet}
use Rattle.recover_files.specs.StreamAt.{shelf_of}
use Rattle.recover_files.proofs.Copies.{HasPassed}
use Rattle.recover_files.proofs.range.read_run.Given as goal

-- the copies before this one lack the bytes that are clear
abbrev pub invariant-loop-copy : goal.invariant-loop-copy
invariant-loop-copy g l = record {
  later : (other : ℕ) → (g.D.Store.view l.initial.store).faults other ≤ (g.D.Store.view l.store).faults other;
  tells : (g.D.Store.view l.store).tells ≡ (g.D.Store.view l.initial.store).tells;
  quiet : Told (g.D.Store.view l.initial.store).tells (Quiet (g.D.Store.view l.initial.store) (g.D.Store.view l.store));
  most : l.clear ≤ length l.into;
  some : 1 ≤ l.clear;
  passed : Told (g.D.Store.view l.initial.store).tells
      (HasPassed (shelf_of l.db l.home (g.D.Store.view l.initial.store).reads) l.row.ssid.0 l.place l.clear l.copies (drop l.copy-index l.copies));
}
