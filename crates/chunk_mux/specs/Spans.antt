-- What a push does to each block, and to the numbers of blocks and of bytes that have room.
use Rattle.std.specs.Prelude.{◌≡◌, ℕ, ◌+◌, ◌-◌, ◌*◌, ◌≤◌, List, [], ◌∷◌, ◌++◌, length, take, drop}
use Rattle.std.specs.Prelude.{◌==◌, if◌then◌else◌}
use Rattle.std.specs.Int.{div_ceil}
use Rattle.volume_block.specs.Chunks.{ChunkText}
use Rattle.chunk_mux.specs.Packing.{chunk_size}

-- ---- blocks

-- the bytes stand in the text from this offset on
abbrev pub IsSlice : List ℕ → ℕ → List ℕ → Type 0
IsSlice text offset bytes = take (length bytes) (drop offset text) ≡ bytes

-- the chunk has bytes of this piece of a copy, which begins at this offset, in their place
pub record IsPartOf (ssid copy offset : ℕ) (piece : List ℕ) (chunk : ChunkText) : Type 0 where
  pub of_set : chunk.ssid ≡ ssid
  pub of_copy : chunk.copy ≡ copy
  pub behind : offset ≤ chunk.offset
  pub some : 1 ≤ length chunk.bytes
  pub slice : IsSlice piece (chunk.offset - offset) chunk.bytes

-- the block has the chunks that it had and one more, which is a part of the piece
pub record HasOneMore (ssid copy offset : ℕ) (piece : List ℕ) (old new : List ChunkText) :
    Type 0 where
  pub chunk : ChunkText
  pub part : IsPartOf ssid copy offset piece chunk
  pub behind : new ≡ old ++ chunk ∷ []

-- ---- numbers

-- how many blocks a piece of so many bytes begins, where the last block has this room
abbrev pub begun_by : ℕ → ℕ → ℕ → ℕ
begun_by size room count = div_ceil (count - room) (chunk_size size)

-- the room in the last block behind such a piece
abbrev pub room_after : ℕ → ℕ → ℕ → ℕ
room_after size room count =
    if count == 0 then room else room + chunk_size size * begun_by size room count - count - 24
