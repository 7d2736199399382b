-- The chunks that stand on a cartridge: those of the whole data blocks of its committed files.
use Rattle.std.specs.Prelude.{◌≡◌, ℕ, ◌+◌, ◌*◌, ◌<◌, List, ◌∷◌, ◌++◌, length}
use Rattle.std.specs.List.{Contains}
use Rattle.volume_block.specs.Chunks.{ChunkText}
use Rattle.volume_block.specs.Standing.{Standing, start_behind}
use Rattle.volume_block.specs.Valid.{ValidBlock, HoldsChunks}
use Rattle.volume_block.specs.declared.label.Label.{Label}
use Rattle.volume_block.specs.declared.block.Block.TheVariants as kinds
use Rattle.volume_store.specs.Committed.{block_at, data_at, HasLabel, DataPlace, Whole}
use Rattle.volume_store.specs.Committed.{CommittedFile}

-- ---- by the marks

-- a place that a walk over open valid marks of so many units reaches
pub data IsReached (bytes : List ℕ) (volid units : ℕ) : ℕ → Type 0 where
  first : IsReached bytes volid units 1
  next : (mark count : ℕ) → IsReached bytes volid units mark
      → ValidBlock (block_at bytes mark) volid mark (kinds.Mark count units)
      → IsReached bytes volid units (mark + units * count + 1)

-- The chunk stands on a cartridge with these bytes: in a data block of a committed file of the
-- volume that the cartridge has the label of.
pub record StandsIn (bytes : List ℕ) (one : Standing) : Type 0 where
  pub label : Label
  pub labelled : HasLabel bytes label
  pub volume : one.volid ≡ label.volid.0
  pub reached : IsReached bytes one.volid label.units one.mark
  pub count : ℕ
  pub opened : ValidBlock (block_at bytes one.mark) one.volid one.mark
      (kinds.Mark count label.units)
  pub index : ℕ
  pub within : index < count
  pub block : one.block ≡ one.mark + 1 + label.units * index
  pub before : List ChunkText
  pub after : List ChunkText
  pub holds : HoldsChunks (data_at label.units bytes one.block) one.volid one.block label.units
      (before ++ one.chunk ∷ after)
  pub start : one.start ≡ start_behind before

-- ---- by the files

-- the chunk stands in one of these files of a volume of so many units
pub record InFiles (volid units : ℕ) (files : List CommittedFile) (one : Standing) : Type 0 where
  pub volume : one.volid ≡ volid
  pub file : CommittedFile
  pub among : Contains files file
  pub mark : one.mark ≡ file.mark
  pub earlier : List DataPlace
  pub before : List ChunkText
  pub after : List ChunkText
  pub later : List DataPlace
  pub places : file.places ≡ earlier ++ Whole (before ++ one.chunk ∷ after) ∷ later
  pub block : one.block ≡ file.mark + 1 + units * length earlier
  pub start : one.start ≡ start_behind before
