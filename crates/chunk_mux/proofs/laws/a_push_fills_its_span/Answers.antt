use Rattle.std.proofs.Common.{arith}
use Rattle.chunk_mux.proofs.Spans.{span_before, span_has}
use Rattle.chunk_mux.proofs.laws.a_push_fills_its_span.Goals as goal

pub returns-clause-before : goal.returns-clause-before
returns-clause-before c = λ size blocks ssid copy offset piece some. span_before size blocks ssid copy offset piece (omega arith)

pub returns-clause-span : goal.returns-clause-span
returns-clause-span c = λ size blocks ssid copy offset piece i some more from low.
    span_has size blocks ssid copy offset piece i (omega arith) more from low
