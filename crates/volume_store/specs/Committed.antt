-- What stands on a cartridge: its label, and its committed files.
use Rattle.std.specs.Prelude.{◌≡◌, ◌≢◌, ◌⊎◌, ℕ, ◌+◌, ◌*◌, ◌≤◌, ◌<◌, List, [], ◌∷◌, length, take}
use Rattle.std.specs.Prelude.{drop, slice_index}
use Rattle.volume_block.specs.Layout.{data_size}
use Rattle.volume_block.specs.Chunks.{ChunkText}
use Rattle.volume_block.specs.Valid.{ValidBlock, HoldsChunks}
use Rattle.volume_block.specs.declared.label.Label.{Label}
use Rattle.volume_block.specs.declared.block.Block.TheVariants as kinds

-- so many bytes from a block's place on, of which there are fewer where the file ends inside them
unfoldable pub part_at : ℕ → List ℕ → ℕ → List ℕ
part_at size bytes number = take size (drop (4096 * number) bytes)

-- the bytes of a label or a mark
abbrev pub block_at : List ℕ → ℕ → List ℕ
block_at bytes number = part_at 4096 bytes number

-- the bytes of a data block of so many units
abbrev pub data_at : ℕ → List ℕ → ℕ → List ℕ
data_at units bytes number = part_at (data_size units) bytes number

-- the kind byte of a block, 0 where the file ends before it
abbrev pub kind_byte_at : List ℕ → ℕ → ℕ
kind_byte_at bytes number = slice_index bytes (4096 * number)

-- a data place of a committed file: a valid data block with its chunks, or a damaged one
pub data DataPlace : Type 0 where
  Whole : List ChunkText → DataPlace
  Damaged : DataPlace

abbrev pub IsDataPlace : List ℕ → ℕ → ℕ → ℕ → DataPlace → Type 0
IsDataPlace bytes volid units number (Whole chunks) =
    HoldsChunks (data_at units bytes number) volid number units chunks
IsDataPlace bytes volid units number Damaged = (chunks : List ChunkText)
    → HoldsChunks (data_at units bytes number) volid number units chunks → ⊥

-- data places of so many units one behind the other, numbered from `first`
abbrev pub AreDataPlaces : List ℕ → ℕ → ℕ → ℕ → List DataPlace → Type 0
AreDataPlaces bytes volid units first [] = Unit {0}
AreDataPlaces bytes volid units first (place ∷ places) =
    IsDataPlace bytes volid units first place
    × AreDataPlaces bytes volid units (first + units) places

-- a committed file: where its mark stands, and its data places
pub record CommittedFile : Type 0 where
  pub mark : ℕ
  pub places : List DataPlace

-- where the committed files end: at a closed mark place, or at one that is invalid, of other units,
-- or not there
pub data End : Type 0 where
  Closed : ℕ → End
  Stop : ℕ → End

abbrev pub EndsAt : List ℕ → ℕ → ℕ → ℕ → End → Type 0
EndsAt bytes volid units mark (Closed place) =
    (place ≡ mark) × (4096 * mark < length bytes) × (kind_byte_at bytes mark ≢ 0x46)
EndsAt bytes volid units mark (Stop place) = (place ≡ mark)
    × ((length bytes ≤ 4096 * mark)
    ⊎ ((kind_byte_at bytes mark ≡ 0x46)
    × ((count : ℕ) → ValidBlock (block_at bytes mark) volid mark (kinds.Mark count units)
    → ⊥)))

-- The files from this mark place on, and their end. Each has a valid open mark with the count of
-- its data places and the volume's units, and the next mark place is behind the last of these.
abbrev pub FilesFrom : List ℕ → ℕ → ℕ → ℕ → List CommittedFile → End → Type 0
FilesFrom bytes volid units mark [] end = EndsAt bytes volid units mark end
FilesFrom bytes volid units mark (file ∷ files) end = (file.mark ≡ mark)
    × ValidBlock (block_at bytes mark) volid mark (kinds.Mark (length file.places) units)
    × AreDataPlaces bytes volid units (mark + 1) file.places
    × FilesFrom bytes volid units (mark + units * length file.places + 1) files end

-- what a cartridge is
pub data Contents : Type 0 where
  -- blank, or closed: byte 0 isn't `L`
  Unlabelled : Contents
  -- byte 0 is `L`, and block 0 is no valid label
  BadLabel : Contents
  Labelled : Label → List CommittedFile → End → Contents

abbrev pub HasLabel : List ℕ → Label → Type 0
HasLabel bytes label = ValidBlock (block_at bytes 0) label.volid.0 0 (kinds.Label label)

abbrev pub Committed : List ℕ → Contents → Type 0
Committed bytes Unlabelled = slice_index bytes 0 ≢ 0x4C
Committed bytes BadLabel =
    (slice_index bytes 0 ≡ 0x4C) × ((label : Label) → HasLabel bytes label → ⊥)
Committed bytes (Labelled label files end) =
    HasLabel bytes label × FilesFrom bytes label.volid.0 label.units 1 files end
