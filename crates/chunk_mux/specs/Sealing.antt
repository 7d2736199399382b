-- What sealing writes into blocks.
use Rattle.std.specs.Prelude.{ℕ, ◌+◌, ◌*◌, List, [], ◌∷◌, ◌++◌, take, drop, length}
use Rattle.volume_block.specs.Chunks.{ChunkText}
use Rattle.volume_block.specs.Layout.{block_text, data_size}
use Rattle.volume_block.specs.Region.{IsSealed}
use Rattle.chunk_mux.specs.Text.{Hold, used_text}

-- the first blocks as data blocks of so many units from this number on, each with so many used
-- bytes of its payload
abbrev pub seal_first : ℕ → ℕ → ℕ → List ℕ → List ℕ → List ℕ
seal_first volid number units [] bytes = bytes
seal_first volid number units (used ∷ more) bytes =
    block_text 0x44 units (data_size units) volid number (used_text used bytes)
    ++ seal_first volid (number + units) units more (drop (data_size units) bytes)

-- The first bytes are the region for this volume and mark place with these chunks, which stand in
-- them as before.
pub record SealsRegion (volid mark units : ℕ) (used new : List ℕ)
    (chunks : List (List ChunkText)) : Type 0 where
  pub holds : Hold units chunks used (drop 4096 new)
  pub text : IsSealed volid mark units chunks
      (take (8192 + data_size units * length used) new)
