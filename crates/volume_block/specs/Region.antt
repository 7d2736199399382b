-- What a commit writes: a mark that is still closed, its data blocks, and a closed block.
use Rattle.std.specs.Prelude.{◌≡◌, ℕ, ◌+◌, ◌≤◌, ◌<◌, ◌^◌, List, [], ◌∷◌, ◌++◌, length, replicate}
use Rattle.volume_block.specs.Layout.{IsUnits, closed}
use Rattle.volume_block.specs.Chunks.{ChunkText}
use Rattle.volume_block.specs.Valid.{IsVolid, IsCount, AreChunks, mark_text, data_text}

-- a closed block as it is written
abbrev pub closed_block : List ℕ
closed_block = replicate 4096 0

-- data blocks of so many units one behind the other, numbered from `first`
abbrev pub blocks_text : ℕ → ℕ → ℕ → List (List ChunkText) → List ℕ
blocks_text volid first units [] = []
blocks_text volid first units (chunks ∷ blocks) =
    data_text volid first units chunks ++ blocks_text volid (first + units) units blocks

-- each block's chunks may stand in a block of so many units
abbrev pub AreBlocks : ℕ → List (List ChunkText) → Type 0
AreBlocks units [] = Unit {0}
AreBlocks units (chunks ∷ blocks) = AreChunks units chunks × AreBlocks units blocks

-- the region for this volume and mark place, with data blocks of these chunks
pub record IsSealed (volid mark units : ℕ) (blocks : List (List ChunkText))
    (region : List ℕ) : Type 0 where
  pub of_volume : IsVolid volid
  pub of_units : IsUnits units
  pub counted : IsCount (length blocks)
  pub placed : (1 ≤ mark) × (mark < 2 ^ 32)
  pub allowed : AreBlocks units blocks
  pub text : region
      ≡ closed (mark_text volid mark (length blocks) units)
      ++ blocks_text volid (mark + 1) units blocks ++ closed_block
