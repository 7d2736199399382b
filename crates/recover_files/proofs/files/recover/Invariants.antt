use Rattle.std.proofs.Common.{◌≡◌, ◌-◌, ◌≤◌, ℕ}
use Rattle.room_base.specs.Outside.{Told}
use Rattle.room_disk.specs.Disk.{Quiet}
use Rattle.recover_files.specs.StreamAt.{shelf_of}
use Rattle.recover_files.specs.FileBytes.{CanBeHad, AddsBytes}
use Rattle.recover_files.proofs.files.recover.Given as goal

-- the bytes up to here were read and written
abbrev pub invariant-loop-done : goal.invariant-loop-done
invariant-loop-done g l = record {
  later : (other : ℕ) → (g.D.Store.view l.initial.store).faults other ≤ (g.D.Store.view l.store).faults other;
  tells : (g.D.Store.view l.store).tells ≡ (g.D.Store.view l.initial.store).tells;
  quiet : Told (g.D.Store.view l.initial.store).tells (Quiet (g.D.Store.view l.initial.store) (g.D.Store.view l.store));
  sink_later : (g.W.Sink.view l.initial.out).faults ≤ (g.W.Sink.view l.out).faults;
  sink_tells : (g.W.Sink.view l.out).tells ≡ (g.W.Sink.view l.initial.out).tells;
  alone : g.W.Sink.puts_alone l.initial.out l.out;
  within : l.done ≤ l.seen.size;
  had : Told (g.D.Store.view l.initial.store).tells
      (CanBeHad (shelf_of l.db l.home (g.D.Store.view l.initial.store).reads) l.db.records l.seen.owner.0 l.seen.place l.done);
  added : Told (g.D.Store.view l.initial.store).tells (Told (g.W.Sink.view l.initial.out).tells
      (AddsBytes (shelf_of l.db l.home (g.D.Store.view l.initial.store).reads) l.db.records l.seen.owner.0 l.seen.place
      (g.W.Sink.view l.initial.out).written (g.W.Sink.view l.out).written l.done));
}

abbrev pub decreases-loop-done : goal.decreases-loop-done
decreases-loop-done g l = l.seen.size - l.done
