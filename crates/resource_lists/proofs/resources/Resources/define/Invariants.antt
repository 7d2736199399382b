use Rattle.std.proofs.Common.{◌≡◌, length}
use Rattle.std.specs.Vec.Iter.{into_iter_items, into_iter_len}
use Rattle.resource_lists.proofs.Defining.{Adds}
use Rattle.resource_lists.proofs.resources.Resources.define.Given as goal

abbrev pub invariant-loop-resource : goal.invariant-loop-resource
invariant-loop-resource l = record {
  adds : Adds l.fn.new l.fn.self l.self (into_iter_items l.resource-iterator);
  len : into_iter_len l.resource-iterator ≡ length (into_iter_items l.resource-iterator);
}
