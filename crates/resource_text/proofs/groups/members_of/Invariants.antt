use Rattle.std.proofs.Common.{drop}
use Rattle.resource_text.specs.Resources.{IsMemberTable}
use Rattle.resource_text.proofs.Items.{AreSoFar}
use Rattle.resource_text.proofs.groups.members_of.Given as goal

-- those before the place are read
abbrev pub invariant-loop-value : goal.invariant-loop-value
invariant-loop-value l =
    AreSoFar IsMemberTable l.fn.array (drop l.value-index l.fn.array) l.members.items
