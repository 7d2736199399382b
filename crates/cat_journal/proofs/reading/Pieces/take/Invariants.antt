use Rattle.std.proofs.Common.{◌≡◌, ◌++◌, ◌-◌, ◌≤◌, ℕ, length, take}
use Rattle.room_base.specs.Outside.{Told}
use Rattle.room_disk.specs.Disk.{Quiet}
use Rattle.cat_journal.specs.Reads.{ahead, IsOf}
use Rattle.cat_journal.proofs.reading.Pieces.take.Given as goal

-- so many bytes were handed out
abbrev pub invariant-loop-done : goal.invariant-loop-done
invariant-loop-done g l = record {
  within : l.done ≤ length l.into;
  file : l.self.file ≡ l.fn.self.file;
  end : l.self.end ≡ l.fn.self.end;
  size : length l.into ≡ length l.fn.into;
  later : (other : ℕ) → (g.D.Store.view l.fn.store).faults other ≤ (g.D.Store.view l.store).faults other;
  tells : (g.D.Store.view l.store).tells ≡ (g.D.Store.view l.fn.store).tells;
  quiet : Told (g.D.Store.view l.fn.store).tells (Quiet (g.D.Store.view l.fn.store) (g.D.Store.view l.store));
  given : Told (g.D.Store.view l.fn.store).tells
      (IsOf l.fn.self ((g.D.Store.view l.fn.store).reads l.fn.self.file)
      → take l.done l.into ++ ahead l.self ((g.D.Store.view l.fn.store).reads l.fn.self.file)
      ≡ ahead l.fn.self ((g.D.Store.view l.fn.store).reads l.fn.self.file));
}

abbrev pub decreases-loop-done : goal.decreases-loop-done
decreases-loop-done g l = length l.into - l.done
