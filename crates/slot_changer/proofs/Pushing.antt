-- A buffer that something was pushed into has a block.
use Rattle.std.proofs.Common.{ℕ, ◌≤◌, List, [], ◌∷◌, length, arith}
use Rattle.volume_block.specs.Chunks.{ChunkText}
use Rattle.chunk_mux.specs.Packing.{BufferView, pack, packed, payload_size}

packed_some : (size : ℕ) (blocks : List (List ChunkText)) (ssid copy offset : ℕ) (piece : List ℕ) → 1 ≤ length piece
    → 1 ≤ length (packed size blocks ssid copy offset piece)
packed_some size [] ssid copy offset [] some = absurd (omega (arith, some))
packed_some size [] ssid copy offset (byte ∷ more) some = omega arith
packed_some size (last ∷ []) ssid copy offset piece some = omega arith
packed_some size (block ∷ (next ∷ rest)) ssid copy offset piece some = omega arith

pub pack_some : (buffer : BufferView) (ssid copy offset : ℕ) (piece : List ℕ) → 1 ≤ length piece
    → 1 ≤ length (pack buffer ssid copy offset piece).blocks
unfolding pack
pack_some buffer ssid copy offset piece some = packed_some (payload_size buffer.units) buffer.blocks ssid copy offset piece some
