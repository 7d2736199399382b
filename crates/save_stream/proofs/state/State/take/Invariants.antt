use Rattle.std.proofs.Common.{length}
use Rattle.save_stream.proofs.Taking.{Goes}
use Rattle.save_stream.proofs.state.State.take.Given as goal

abbrev pub invariant-loop-rest : goal.invariant-loop-rest
invariant-loop-rest l = Goes l.fn.self l.self l.piece l.rest

abbrev pub decreases-loop-rest : goal.decreases-loop-rest
decreases-loop-rest l = length l.rest
