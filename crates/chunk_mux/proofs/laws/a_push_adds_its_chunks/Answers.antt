use Rattle.std.proofs.Common.{arith}
use Rattle.chunk_mux.proofs.Placing.{push_adds, push_keeps}
use Rattle.chunk_mux.proofs.laws.a_push_adds_its_chunks.Goals as goal

pub returns-clause-kept : goal.returns-clause-kept
returns-clause-kept c = λ size volid mark units blocks ssid copy offset piece one some.
    push_keeps size volid mark units blocks ssid copy offset piece one (omega arith)

pub returns-clause-added : goal.returns-clause-added
returns-clause-added c = λ size volid mark units blocks ssid copy offset piece one some.
    push_adds size volid mark units blocks ssid copy offset piece one (omega arith)
