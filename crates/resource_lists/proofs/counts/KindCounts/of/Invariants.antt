use Rattle.std.proofs.Common.{◌≡◌, take}
use Rattle.resource_lists.specs.Counts.{counted}
use Rattle.resource_lists.proofs.counts.KindCounts.of.Given as goal

abbrev pub invariant-loop-resource : goal.invariant-loop-resource
invariant-loop-resource l = l.counts ≡ counted (take l.resource-index l.resources)
