-- The chunks that the bytes of blocks spell.
use Rattle.std.specs.Prelude.{◌≡◌, ℕ, zero, suc, ◌+◌, List, [], ◌∷◌, ◌++◌, length, take, drop}
use Rattle.volume_block.specs.Chunks.{ChunkText, ssid_in, copy_in, offset_in, count_in, chunks_text}
use Rattle.volume_block.specs.Valid.{AreChunks}
use Rattle.volume_block.specs.Layout.{data_size}

-- the chunk at the front of these bytes
abbrev pub chunk_at : List ℕ → ChunkText
chunk_at text =
    record {
      ssid = ssid_in text;
      copy = copy_in text;
      offset = offset_in text;
      bytes = take (count_in text) (drop 24 text);
    }

-- The chunks that these bytes spell, one behind the other, at most so many.
abbrev pub chunks_at : ℕ → List ℕ → List ChunkText
chunks_at zero text = []
chunks_at (suc most) [] = []
chunks_at (suc most) (byte ∷ more) =
    chunk_at (byte ∷ more) ∷ chunks_at most (drop (24 + count_in (byte ∷ more)) (byte ∷ more))

-- the payload that is used of the block at the front of these bytes
abbrev pub used_text : ℕ → List ℕ → List ℕ
used_text used bytes = take used (drop 56 bytes)

-- The chunks of each of the first blocks of these bytes, where so many bytes of each payload are
-- used. The blocks stand one behind the other.
unfoldable pub chunks_in : ℕ → List ℕ → List ℕ → List (List ChunkText)
chunks_in units [] bytes = []
chunks_in units (used ∷ more) bytes =
    chunks_at used (used_text used bytes) ∷ chunks_in units more (drop (data_size units) bytes)

-- these chunks stand in the blocks, and fill what is used of each payload
abbrev pub Hold : ℕ → List (List ChunkText) → List ℕ → List ℕ → Type 0
Hold units [] [] bytes = Unit {0}
Hold units (chunks ∷ more) (used ∷ others) bytes =
    AreChunks units chunks × (used ≡ length (chunks_text chunks))
    × (used_text used bytes ≡ chunks_text chunks)
    × Hold units more others (drop (data_size units) bytes)
Hold units _ _ bytes = ⊥

-- the bytes with these in place of those from a place on
abbrev pub written : ℕ → List ℕ → List ℕ → List ℕ
written at text bytes = take at bytes ++ (text ++ drop (at + length text) bytes)
