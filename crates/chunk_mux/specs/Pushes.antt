-- Many pushes, one after the other.
use Rattle.std.specs.Prelude.{◌≡◌, ℕ, ◌==◌, ◌&&◌, ◌||◌, Bool, false, List, [], ◌∷◌, ◌++◌, All}
use Rattle.std.specs.List.{flat_map, filter}
use Rattle.volume_block.specs.Chunks.{ChunkText, all_chunks, JoinFrom}
use Rattle.chunk_mux.specs.Packing.{packed}
use Rattle.chunk_mux.specs.Spans.{IsPartOf}

-- a piece of a copy of a save set, from an offset on
pub record Push : Type 0 where
  pub ssid : ℕ
  pub copy : ℕ
  pub offset : ℕ
  pub piece : List ℕ

-- the data blocks, whose payloads have this size, after some pushes
abbrev pub pushed : ℕ → List (List ChunkText) → List Push → List (List ChunkText)
pushed size blocks [] = blocks
pushed size blocks (push ∷ more) =
    pushed size (packed size blocks push.ssid push.copy push.offset push.piece) more

-- A push puts chunks behind those that are there. They join to its piece, and each has its bytes of
-- the piece.
pub record AddsChunks (old new : List (List ChunkText)) (ssid copy offset : ℕ) (piece : List ℕ) :
    Type 0 where
  pub added : List ChunkText
  pub behind : all_chunks new ≡ all_chunks old ++ added
  pub joined : JoinFrom ssid copy offset added piece
  pub parts : All (IsPartOf ssid copy offset piece) added

-- whether a chunk of this save set is among these
abbrev pub has_set : ℕ → List ChunkText → Bool
has_set ssid [] = false
has_set ssid (chunk ∷ more) = (chunk.ssid == ssid) || has_set ssid more

-- the bytes of the chunks of one copy, in order
abbrev pub bytes_of : ℕ → ℕ → List ChunkText → List ℕ
bytes_of ssid copy chunks =
    flat_map (λ (chunk : ChunkText). chunk.bytes)
    (filter (λ (chunk : ChunkText). (chunk.ssid == ssid) && (chunk.copy == copy)) chunks)

-- the pieces that were pushed for one copy, in order
abbrev pub pieces_of : ℕ → ℕ → List Push → List ℕ
pieces_of ssid copy pushes =
    flat_map (λ (push : Push). push.piece)
    (filter (λ (push : Push). (push.ssid == ssid) && (push.copy == copy)) pushes)
