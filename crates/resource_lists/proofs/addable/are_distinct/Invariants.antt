use Rattle.std.proofs.Common.{length}
use Rattle.resource_lists.specs.Adding.{AreDistinct}
use Rattle.resource_lists.proofs.addable.are_distinct.Given as goal

abbrev pub invariant-loop-rest : goal.invariant-loop-rest
invariant-loop-rest l = (AreDistinct l.rest → AreDistinct l.resources) × (AreDistinct l.resources → AreDistinct l.rest)

abbrev pub decreases-loop-rest : goal.decreases-loop-rest
decreases-loop-rest l = length l.rest
