use Rattle.std.proofs.Common.{arith}
use Rattle.chunk_mux.proofs.Faults.{rise, walk_to_hole}
use Rattle.chunk_mux.proofs.laws.a_hole_is_the_first.Goals as goal

pub returns-clause-below : goal.returns-clause-below
returns-clause-below c = λ chunks at place sorted is below. (walk_to_hole 0 0 at chunks (rise chunks sorted) is).once place (omega arith) below

pub returns-clause-here : goal.returns-clause-here
returns-clause-here c = λ chunks at sorted is. (walk_to_hole 0 0 at chunks (rise chunks sorted) is).missing
