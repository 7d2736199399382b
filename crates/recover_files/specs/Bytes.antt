-- A byte of a save set's stream, as the chunks of a data block hold it.
use Rattle.std.specs.Prelude.{◌≡◌, ◌⊎◌, ℕ, ◌+◌, ◌-◌, ◌≤◌, ◌<◌, List, [], ◌∷◌, length, slice_index}
use Rattle.volume_block.specs.Chunks.{ChunkText}

-- the chunk is one of this copy of the save set, and covers the place of its stream
pub record Covers (ssid copy place : ℕ) (chunk : ChunkText) : Type 0 where
  pub set : chunk.ssid ≡ ssid
  pub of_copy : chunk.copy ≡ copy
  pub from : chunk.offset ≤ place
  pub to : place < chunk.offset + length chunk.bytes

-- the byte that the chunk has at a place that it covers
abbrev pub byte_in : ChunkText → ℕ → ℕ
byte_in chunk place = slice_index chunk.bytes (place - chunk.offset)

-- the first of the chunks that covers the place has this byte there
abbrev pub GiveByte : ℕ → ℕ → ℕ → List ChunkText → ℕ → Type 0
GiveByte ssid copy place [] byte = ⊥
GiveByte ssid copy place (chunk ∷ chunks) byte =
    (Covers ssid copy place chunk × (byte ≡ byte_in chunk place))
    ⊎ ((¬ Covers ssid copy place chunk) × GiveByte ssid copy place chunks byte)

-- none of the chunks covers the place
abbrev pub GiveNone : ℕ → ℕ → ℕ → List ChunkText → Type 0
GiveNone ssid copy place [] = Unit {0}
GiveNone ssid copy place (chunk ∷ chunks) =
    (¬ Covers ssid copy place chunk) × GiveNone ssid copy place chunks
