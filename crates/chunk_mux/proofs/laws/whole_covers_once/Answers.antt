use Rattle.std.proofs.Common.{arith}
use Rattle.chunk_mux.proofs.Walking.{walk_covers}
use Rattle.chunk_mux.proofs.laws.whole_covers_once.Goals as goal

pub returns-clause-within : goal.returns-clause-within
returns-clause-within c = λ chunks size place is low. (walk_covers 0 size chunks is).once place (omega arith) low

pub returns-clause-behind : goal.returns-clause-behind
returns-clause-behind c = λ chunks size place is far. (walk_covers 0 size chunks is).behind place far
