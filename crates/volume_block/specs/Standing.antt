-- Chunks where they stand on a volume.
use Rattle.std.specs.Prelude.{◌≡◌, ℕ, ◌+◌, ◌*◌, List, ◌∷◌, ◌++◌, length, map}
use Rattle.volume_block.specs.Chunks.{ChunkText, chunks_text}

-- A chunk in a block of the file of a volume that has its mark at `mark`. Its bytes are in the
-- block from the byte `start` on.
pub record Standing : Type 0 where
  pub volid : ℕ
  pub mark : ℕ
  pub block : ℕ
  pub start : ℕ
  pub chunk : ChunkText

abbrev pub chunks_of : List Standing → List ChunkText
chunks_of run = map (λ (one : Standing). one.chunk) run

-- where the bytes of a chunk begin in a block, behind these chunks
abbrev pub start_behind : List ChunkText → ℕ
start_behind before = 80 + length (chunks_text before)

-- The chunk is one of the file that a commit of these blocks at this mark place adds to a volume of
-- so many units.
pub record InBlocks (volid mark units : ℕ) (blocks : List (List ChunkText)) (one : Standing) :
    Type 0 where
  pub volume : one.volid ≡ volid
  pub at : one.mark ≡ mark
  pub earlier : List (List ChunkText)
  pub before : List ChunkText
  pub after : List ChunkText
  pub later : List (List ChunkText)
  pub parts : blocks ≡ earlier ++ (before ++ one.chunk ∷ after) ∷ later
  pub block : one.block ≡ mark + 1 + units * length earlier
  pub start : one.start ≡ start_behind before
