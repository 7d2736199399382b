use Rattle.std.proofs.Common.{sym, subst, take, length-take, arith}
use Rattle.resource_lists.specs.Counts.{AreBelow}
use Rattle.resource_lists.proofs.Counting.{counted_below, counted_more}
use Rattle.resource_lists.proofs.counts.KindCounts.of.Goals as goal

pub add-requires : goal.add-requires
add-requires c =
    let all = c.args.resources.now in
    subst (AreBelow 18446744073709551615) (sym c.loop-resource.invariant)
    (counted_below (take c.loop-resource.resource-index all) _ (omega (arith, length-take c.loop-resource.resource-index all)))

pub loop-resource-preserved : goal.loop-resource-preserved
loop-resource-preserved c =
    counted_more c.args.resources.now c.loop-resource.resource-index c.resource-item.result (omega arith) c.resource-item.is c.loop-resource.counts _ c.loop-resource.invariant c.add.ensures
