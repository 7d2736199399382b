use Rattle.std.proofs.Common.{◌≡◌, take}
use Rattle.catalog_change.proofs.lists.resources_copy.Given as goal

-- those before the index are copied
abbrev pub invariant-loop-resource : goal.invariant-loop-resource
invariant-loop-resource l = l.copy.items ≡ take l.resource-index l.fn.resources
