use Rattle.std.proofs.Common.{◌≡◌, take}
use Rattle.catalog_change.proofs.lists.entries_copy.Given as goal

-- those before the index are copied
abbrev pub invariant-loop-entry : goal.invariant-loop-entry
invariant-loop-entry l = l.copy.items ≡ take l.entry-index l.fn.entries
