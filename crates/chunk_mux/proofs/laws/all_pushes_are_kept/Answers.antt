use Rattle.std.proofs.Common.{[], refl, arith}
use Rattle.chunk_mux.proofs.Packing.{packed_none}
use Rattle.chunk_mux.proofs.Joining.{packed_adds, packed_sets, pushes_kept}
use Rattle.chunk_mux.proofs.laws.all_pushes_are_kept.Goals as goal

pub returns-clause-empty : goal.returns-clause-empty
returns-clause-empty c = λ size blocks ssid copy offset. packed_none size blocks ssid copy offset [] refl

pub returns-clause-each : goal.returns-clause-each
returns-clause-each c = λ size blocks ssid copy offset piece some. packed_adds size blocks ssid copy offset piece (omega arith)

pub returns-clause-joined : goal.returns-clause-joined
returns-clause-joined c = λ size blocks pushes ssid copy some. pushes_kept size blocks pushes ssid copy (omega arith)

pub returns-clause-sets : goal.returns-clause-sets
returns-clause-sets c = λ size blocks ssid copy offset other piece some more.
    packed_sets size blocks other ssid copy offset piece (omega arith) more
