-- Where chunks stand in a data block.
use Rattle.std.specs.Prelude.{◌≡◌, ℕ, ◌+◌, List, [], ◌∷◌, ◌++◌, length, take, drop, Option, Some}
use Rattle.std.specs.Prelude.{None}
use Rattle.volume_block.specs.Chunks.{ChunkText, chunks_text}
use Rattle.volume_block.specs.Valid.{HoldsChunks}
use Rattle.volume_block.specs.declared.block.Chunk.{Chunk}

-- a data block of these chunks, with so many bytes before the second list
pub record SplitsAt (bytes : List ℕ) (volid number units place : ℕ)
    (before after : List ChunkText) : Type 0 where
  pub holds : HoldsChunks bytes volid number units (before ++ after)
  pub stands : place ≡ length (chunks_text before)

-- a place in a valid data block where a chunk begins, or behind the last
abbrev pub IsChunkPlace : List ℕ → ℕ → Type 0
IsChunkPlace bytes place =
    (volid : ℕ)
    × ((number : ℕ)
    × ((units : ℕ)
    × ((before : List ChunkText)
    × ((after : List ChunkText) × SplitsAt bytes volid number units place before after))))

-- what is found of a chunk that begins at this place
pub record IsFound (bytes : List ℕ) (place : ℕ) (chunk : ChunkText) (found : Chunk) : Type 0 where
  pub ssid : found.ssid.0 ≡ chunk.ssid
  pub copy : found.copy.0 ≡ chunk.copy
  pub offset : found.offset ≡ chunk.offset
  pub size : found.length ≡ length chunk.bytes
  pub start : found.start ≡ place + 80
  pub next : found.next ≡ place + 24 + length chunk.bytes
  pub text : take found.length (drop found.start bytes) ≡ chunk.bytes

-- the first of these chunks is found, which begin at this place
abbrev pub FindsFirst : List ℕ → ℕ → List ChunkText → Option Chunk → Type 0
FindsFirst bytes place [] found = found ≡ None
FindsFirst bytes place (chunk ∷ chunks) None = ⊥
FindsFirst bytes place (chunk ∷ chunks) (Some found) = IsFound bytes place chunk found
