use Rattle.std.proofs.Common.{◌≡◌, ◌-◌, ◌≤◌, ℕ, length}
use Rattle.room_base.specs.Outside.{Told}
use Rattle.room_disk.specs.Disk.{Quiet}
use Rattle.recover_files.specs.StreamAt.{shelf_of, AreBytes}
use Rattle.recover_files.proofs.range.read_range.Given as goal

-- the bytes up to here were read
abbrev pub invariant-loop-done : goal.invariant-loop-done
invariant-loop-done g l = record {
  later : (other : ℕ) → (g.D.Store.view l.initial.store).faults other ≤ (g.D.Store.view l.store).faults other;
  tells : (g.D.Store.view l.store).tells ≡ (g.D.Store.view l.initial.store).tells;
  quiet : Told (g.D.Store.view l.initial.store).tells (Quiet (g.D.Store.view l.initial.store) (g.D.Store.view l.store));
  within : l.done ≤ length l.into;
  given : Told (g.D.Store.view l.initial.store).tells
      (AreBytes (shelf_of l.db l.home (g.D.Store.view l.initial.store).reads) l.db.records l.ssid.0 l.from l.done l.into);
}

abbrev pub decreases-loop-done : goal.decreases-loop-done
decreases-loop-done g l = length l.into - l.done
