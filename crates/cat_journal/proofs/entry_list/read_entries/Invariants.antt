use Rattle.std.proofs.Common.{◌≡◌, ◌+◌, ◌-◌, ◌≤◌, ℕ, false, length}
use Rattle.room_base.specs.Outside.{Told}
use Rattle.room_disk.specs.Disk.{Quiet}
use Rattle.cat_journal.specs.Reads.{ahead, IsOf}
use Rattle.cat_journal.specs.Entries.{IsCounted}
use Rattle.cat_journal.proofs.Listing.{EntriesSoFar}
use Rattle.cat_journal.proofs.entry_list.read_entries.Given as goal

-- the entries before the gate were read
abbrev pub invariant-loop-list : goal.invariant-loop-list
invariant-loop-list g l = record {
  within : l.list.gate ≤ l.head.end;
  unclosed : l.list.closed ≡ false;
  counted : IsCounted l.head.form l.head.number l.list;
  file : l.pieces.file ≡ l.fn.pieces.file;
  end : l.pieces.end ≡ l.fn.pieces.end;
  later : (other : ℕ) → (g.D.Store.view l.fn.store).faults other ≤ (g.D.Store.view l.store).faults other;
  tells : (g.D.Store.view l.store).tells ≡ (g.D.Store.view l.fn.store).tells;
  quiet : Told (g.D.Store.view l.fn.store).tells (Quiet (g.D.Store.view l.fn.store) (g.D.Store.view l.store));
  found : Told (g.D.Store.view l.fn.store).tells
      (IsOf l.fn.pieces ((g.D.Store.view l.fn.store).reads l.fn.pieces.file)
      → l.head.end ≡ 64 + l.head.size + length (ahead l.fn.pieces ((g.D.Store.view l.fn.store).reads l.fn.pieces.file))
      → EntriesSoFar l.head.form l.head.number (64 + l.head.size)
      (ahead l.fn.pieces ((g.D.Store.view l.fn.store).reads l.fn.pieces.file))
      (ahead l.pieces ((g.D.Store.view l.fn.store).reads l.fn.pieces.file)) l.list);
}

abbrev pub decreases-loop-list : goal.decreases-loop-list
decreases-loop-list g l = l.head.end - l.list.gate
