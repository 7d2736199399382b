use Rattle.std.proofs.Common.{◌-◌, arith}
use Rattle.chunk_mux.proofs.Joining.{packed_joins}
use Rattle.chunk_mux.proofs.Numbers.{length-new}
use Rattle.chunk_mux.proofs.laws.one_push_is_kept.Goals as goal

pub returns-clause-joined : goal.returns-clause-joined
returns-clause-joined c = λ size ssid copy offset piece some. packed_joins size ssid copy offset piece (omega arith)

pub returns-clause-count : goal.returns-clause-count
returns-clause-count c = λ size ssid copy offset piece some. length-new (size - 24) _ ssid copy offset piece (omega arith) (omega arith)
