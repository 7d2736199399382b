use Rattle.std.proofs.Common.{◌≡◌, ◌++◌, ◌-◌, ◌≤◌, ℕ, length, take, drop, min}
use Rattle.std.specs.Prelude.{vec_len}
use Rattle.room_base.specs.Outside.{Told}
use Rattle.room_disk.specs.Disk.{Quiet}
use Rattle.sha2.specs.Hashers.{Holds256}
use Rattle.cat_journal.proofs.front.check_snapshot.Given as goal

-- so many bytes of the snapshot were digested
abbrev pub invariant-loop-done : goal.invariant-loop-done
invariant-loop-done g l = record {
  within : l.done ≤ l.head.size;
  room : vec_len l.piece ≡ min l.head.size 1048576;
  later : (other : ℕ) → (g.D.Store.view l.fn.store).faults other ≤ (g.D.Store.view l.store).faults other;
  tells : (g.D.Store.view l.store).tells ≡ (g.D.Store.view l.fn.store).tells;
  quiet : Told (g.D.Store.view l.fn.store).tells (Quiet (g.D.Store.view l.fn.store) (g.D.Store.view l.store));
  read : Told (g.D.Store.view l.fn.store).tells (l.done ≤ length ((g.D.Store.view l.fn.store).reads l.file) - 64);
  digested : Told (g.D.Store.view l.fn.store).tells
      (Holds256 l.hasher (l.head.fields ++ take l.done (drop 64 ((g.D.Store.view l.fn.store).reads l.file))));
}

abbrev pub decreases-loop-done : goal.decreases-loop-done
decreases-loop-done g l = l.head.size - l.done
