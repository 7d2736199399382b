use Rattle.std.proofs.Common.{◌≡◌, ◌++◌, take, drop, map}
use Rattle.client_index.specs.Walk.{past_in, rests_of}
use Rattle.client_index.proofs.walk.pass_each.Given as goal

abbrev pub invariant-loop-rest : goal.invariant-loop-rest
invariant-loop-rest l =
    rests_of l.rest-items ≡ map (past_in l.path) (take l.rest-index (rests_of l.initial.rest-items)) ++ drop l.rest-index (rests_of l.initial.rest-items)
