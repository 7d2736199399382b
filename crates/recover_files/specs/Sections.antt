-- A section of a copy: its data blocks, and the byte that they give at a place of the stream.
use Rattle.std.specs.Prelude.{◌≡◌, ◌⊎◌, ℕ, ◌+◌, ◌*◌, ◌≤◌, ◌<◌, List}
use Rattle.volume_block.specs.Chunks.{ChunkText}
use Rattle.volume_block.specs.Valid.{HoldsChunks}
use Rattle.volume_block.specs.declared.block.Block.{Block}
use Rattle.volume_block.specs.declared.block.Block.TheVariants.{Label, Mark, Data}
use Rattle.volume_block.specs.declared.label.Label.{Label as LabelFields}
use Rattle.volume_store.specs.Committed.{data_at}
use Rattle.volume_store.specs.Reads.{StandsAt}
use Rattle.media_db.specs.declared.copies.Section.{Section}
use Rattle.recover_files.specs.Bytes.{GiveByte, GiveNone}

-- ---- a data block

-- a valid data block of these chunks stands there, of whichever units
pub record HasChunks (bytes : List ℕ) (volid number : ℕ) (chunks : List ChunkText) : Type 0 where
  pub units : ℕ
  pub holds : HoldsChunks (data_at units bytes number) volid number units chunks

-- no valid data block stands there
abbrev pub IsInvalid : List ℕ → ℕ → ℕ → Type 0
IsInvalid bytes volid number = (chunks : List ChunkText) → ¬ HasChunks bytes volid number chunks

-- the valid data block there gives this byte
pub record BlockGives (bytes : List ℕ) (volid number ssid copy place byte : ℕ) : Type 0 where
  pub chunks : List ChunkText
  pub has : HasChunks bytes volid number chunks
  pub gives : GiveByte ssid copy place chunks byte

-- no valid data block stands there, or it doesn't cover the place
abbrev pub BlockLacks : List ℕ → ℕ → ℕ → ℕ → ℕ → ℕ → Type 0
BlockLacks bytes volid number ssid copy place = (chunks : List ChunkText)
    → HasChunks bytes volid number chunks → GiveNone ssid copy place chunks

-- ---- the data blocks of a section

-- the units that a block tells
abbrev pub units_of : Block → ℕ
units_of (Label label) = label.units
units_of (Mark count units) = units
units_of (Data used units) = units

-- no valid block at the section's first place, no valid mark at the place of its mark
abbrev pub LacksFirst : List ℕ → Section → Type 0
LacksFirst bytes section =
    (block : Block) → ¬ StandsAt bytes section.volid.0 section.first block

abbrev pub LacksMark : List ℕ → Section → Type 0
LacksMark bytes section =
    (count units : ℕ) → ¬ StandsAt bytes section.volid.0 section.mark (Mark count units)

abbrev pub LacksLabel : List ℕ → Section → Type 0
LacksLabel bytes section =
    (label : LabelFields) → ¬ StandsAt bytes section.volid.0 0 (Label label)

-- How many units lie between the data blocks of a section: as many as its first block tells, else
-- its mark, else the label of its volume. Where none of them is valid there are none, and its first
-- block is its only one.
pub data HasUnits (bytes : List ℕ) (section : Section) : ℕ → Type 0 where
  by_first_block : (block : Block) → StandsAt bytes section.volid.0 section.first block
      → HasUnits bytes section (units_of block)
  by_its_mark : (count units : ℕ) → LacksFirst bytes section
      → StandsAt bytes section.volid.0 section.mark (Mark count units)
      → HasUnits bytes section units
  by_the_label : (fields : LabelFields) → LacksFirst bytes section → LacksMark bytes section
      → StandsAt bytes section.volid.0 0 (Label fields) → HasUnits bytes section fields.units
  by_none_of_them : LacksFirst bytes section → LacksMark bytes section → LacksLabel bytes section
      → HasUnits bytes section 0

-- the number of a data block, counted from 0
abbrev pub number_at : Section → ℕ → ℕ → ℕ
number_at section units index = section.first + units * index

-- the section has so many data blocks and more: the first, and each further one up to the last
abbrev pub HasBlock : Section → ℕ → ℕ → Type 0
HasBlock section units index =
    (index ≡ 0) ⊎ ((1 ≤ units) × (number_at section units index ≤ section.last))

-- ---- what a section gives

-- the first of its data blocks that covers the place gives this byte
pub record SectionGives (bytes : List ℕ) (section : Section) (ssid copy place byte : ℕ) :
    Type 0 where
  pub units : ℕ
  pub told : HasUnits bytes section units
  pub index : ℕ
  pub within : HasBlock section units index
  pub gives : BlockGives bytes section.volid.0 (number_at section units index) ssid copy place byte
  pub first : (earlier : ℕ) → earlier < index
      → BlockLacks bytes section.volid.0 (number_at section units earlier) ssid copy place

-- none of its data blocks covers the place
abbrev pub SectionLacks : List ℕ → Section → ℕ → ℕ → ℕ → Type 0
SectionLacks bytes section ssid copy place = (units index : ℕ) → HasUnits bytes section units
    → HasBlock section units index
    → BlockLacks bytes section.volid.0 (number_at section units index) ssid copy place

-- the first of its data blocks that isn't valid, as it is told
pub record IsFirstInvalid (bytes : List ℕ) (section : Section) (number : ℕ) : Type 0 where
  pub units : ℕ
  pub told : HasUnits bytes section units
  pub index : ℕ
  pub within : HasBlock section units index
  pub is : number ≡ number_at section units index
  pub invalid : IsInvalid bytes section.volid.0 number
  pub first : (earlier : ℕ) → earlier < index
      → ¬ IsInvalid bytes section.volid.0 (number_at section units earlier)

-- each of its data blocks is valid
abbrev pub AreValid : List ℕ → Section → Type 0
AreValid bytes section = (units index : ℕ) → HasUnits bytes section units
    → HasBlock section units index
    → ¬ IsInvalid bytes section.volid.0 (number_at section units index)

-- the block that is named where the section doesn't give a byte that it should have
abbrev pub IsBlamed : List ℕ → Section → ℕ → Type 0
IsBlamed bytes section number = IsFirstInvalid bytes section number
    ⊎ (AreValid bytes section × (number ≡ section.first))
