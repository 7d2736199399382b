use Rattle.std.proofs.Common.{arith}
use Rattle.chunk_mux.proofs.Faults.{rise, walk_to_overlap}
use Rattle.chunk_mux.proofs.laws.an_overlap_is_the_first.Goals as goal

pub returns-clause-below : goal.returns-clause-below
returns-clause-below c = λ chunks at place sorted each is below.
    (walk_to_overlap 0 0 at chunks (rise chunks sorted) each is).once place (omega arith) below

pub returns-clause-here : goal.returns-clause-here
returns-clause-here c = λ chunks at sorted each is. (walk_to_overlap 0 0 at chunks (rise chunks sorted) each is).twice (omega arith)
