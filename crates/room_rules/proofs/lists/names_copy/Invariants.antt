use Rattle.std.proofs.Common.{◌≡◌, take}
use Rattle.room_rules.proofs.lists.names_copy.Given as goal

-- those before the index are copied
abbrev pub invariant-loop-name : goal.invariant-loop-name
invariant-loop-name l = l.copy.items ≡ take l.name-index l.fn.names
