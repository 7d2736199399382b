use Rattle.std.proofs.Common.{◌≡◌, take}
use Rattle.media_db.proofs.copies.copies_of.Given as goal

-- those before the index are copied
abbrev pub invariant-loop-one : goal.invariant-loop-one
invariant-loop-one l = l.copies.items ≡ take l.one-index l.list
