use Rattle.std.proofs.Common.{arith}
use Rattle.chunk_mux.specs.Packing.{pack, payload_size}
use Rattle.chunk_mux.proofs.Numbers.{length-packed, room-packed, fits-packed}
use Rattle.chunk_mux.proofs.laws.pushes_are_counted.Goals as goal

pub returns-clause-count : goal.returns-clause-count
returns-clause-count c = λ size blocks ssid copy offset piece some. length-packed size blocks ssid copy offset piece (omega arith)

pub returns-clause-room : goal.returns-clause-room
returns-clause-room c = λ size blocks ssid copy offset piece some. room-packed size blocks ssid copy offset piece (omega arith)

pub returns-clause-fits : goal.returns-clause-fits
returns-clause-fits c = λ size most blocks ssid copy offset piece some few.
    fits-packed size most blocks ssid copy offset piece (omega arith) few

pub returns-clause-buffer : goal.returns-clause-buffer
unfolding pack
returns-clause-buffer c = λ buffer ssid copy offset piece units few.
    fits-packed (payload_size buffer.units) 64 buffer.blocks ssid copy offset piece (omega arith) few
