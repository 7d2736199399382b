use Rattle.std.proofs.Common.{take}
use Rattle.client_index.specs.Walk.{IsLeast, rests_of, lent}
use Rattle.client_index.proofs.walk.least.Given as goal

abbrev pub invariant-loop-rest : goal.invariant-loop-rest
invariant-loop-rest l = IsLeast (rests_of (take l.rest-index l.rests)) (lent l.least)
