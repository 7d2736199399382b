-- What is read of a cartridge: its label, its marks, its blocks.
use Rattle.std.specs.Prelude.{◌≡◌, ◌≢◌, ◌⊎◌, ℕ, ◌+◌, ◌*◌, ◌≤◌, ◌<◌, List, ◌∷◌, ◌++◌, length}
use Rattle.std.specs.Prelude.{slice_index, Result, Ok, Err, Option, Some, None, MatchOption}
use Rattle.room_disk.specs.Disk.{DiskView, Settled}
use Rattle.volume_block.specs.Valid.{IsLabel, ValidBlock, size_of}
use Rattle.volume_block.specs.Why.{Why, TellsSize, volid_in}
use Rattle.volume_block.specs.declared.label.Label.{Label}
use Rattle.volume_block.specs.declared.block.Block.{Block}
use Rattle.volume_block.specs.declared.block.Block.TheVariants as kinds
use Rattle.volume_block.specs.declared.block.BadBlock.{BadBlock}
use Rattle.volume_block.specs.declared.block.Reason.{Reason}
use Rattle.volume_block.specs.declared.block.Reason.TheVariants as reasons
use Rattle.volume_store.specs.Committed.{part_at, block_at, HasLabel, CommittedFile, End, Closed}
use Rattle.volume_store.specs.Committed.{Stop}
use Rattle.volume_store.specs.Committed.{FilesFrom, Unlabelled, BadLabel, Labelled, Committed}
use Rattle.volume_store.specs.declared.label.Found.{Found}
use Rattle.volume_store.specs.declared.label.Found.TheVariants as found
use Rattle.volume_store.specs.declared.reading.ReadFault.{ReadFault}
use Rattle.volume_store.specs.declared.reading.ReadFault.TheVariants as faults
use Rattle.volume_store.specs.declared.marks.FilePlace.{FilePlace}
use Rattle.volume_store.specs.declared.marks.MarkWalk.{MarkWalk}
use Rattle.volume_store.specs.declared.marks.MarkPlace.{MarkPlace}
use Rattle.volume_store.specs.declared.marks.MarkPlace.TheVariants as places
use Rattle.volume_store.specs.declared.marks.WalkFault.{WalkFault}
use Rattle.volume_store.specs.declared.marks.WalkFault.TheVariants as walks
use Rattle.volume_store.specs.declared.marks.MountFault.{MountFault}
use Rattle.volume_store.specs.declared.marks.MountFault.TheVariants as mounts
use Rattle.volume_store.specs.declared.commit.Volume.{Volume}

-- ---- a block

-- the block stands at its place in a file, with as many bytes as it has
abbrev pub StandsAt : List ℕ → ℕ → ℕ → Block → Type 0
StandsAt bytes volid number block =
    ValidBlock (part_at (size_of block) bytes number) volid number block

-- what is first wrong of a block of so many bytes: the file ends inside it, or this part is wrong
abbrev pub IsFirstWrong : ℕ → List ℕ → ℕ → ℕ → Reason → Type 0
IsFirstWrong size block volid number why = ((length block < size) × (why ≡ reasons.Length))
    ⊎ ((length block ≡ size) × Why block volid number why)

-- The bytes at the place of a block of so many bytes are no valid block of this volume and number.
pub record IsBad (size : ℕ) (block : List ℕ) (volid number : ℕ) (why : Reason) : Type 0 where
  pub first_wrong : IsFirstWrong size block volid number why
  pub invalid : (other : Block) → size_of other ≡ size → ¬ ValidBlock block volid number other

-- what is found where a block of so many bytes of this volume and number is to stand
abbrev pub IsJudged : ℕ → List ℕ → ℕ → ℕ → Result Block BadBlock → Type 0
IsJudged size block volid number (Ok read) = ValidBlock block volid number read
IsJudged size block volid number (Err bad) = IsBad size block volid number bad.why

-- the size of the block that begins with these bytes: 4,096 where there are fewer
abbrev pub BeginsSize : List ℕ → ℕ → Type 0
BeginsSize front size = ((length front < 4096) × (size ≡ 4096)) ⊎ TellsSize front size

-- No valid block of this volume and number stands at its place in a file, whatever its size. The
-- first wrong part is that of the block of the size that is told there.
pub record IsBadAt (bytes : List ℕ) (volid number : ℕ) (why : Reason) : Type 0 where
  pub size : ℕ
  pub told : BeginsSize (block_at bytes number) size
  pub first_wrong : IsFirstWrong size (part_at size bytes number) volid number why
  pub invalid : (other : Block) → ¬ StandsAt bytes volid number other

-- what reading a block of this volume and number finds
abbrev pub JudgesBlock : List ℕ → ℕ → ℕ → Result Block ReadFault → Type 0
JudgesBlock bytes volid number (Ok read) = StandsAt bytes volid number read
JudgesBlock bytes volid number (Err (faults.Bad bad)) = IsBadAt bytes volid number bad.why
JudgesBlock bytes volid number (Err faults.Failed) = Unit {0}

-- of the bytes read, as far as there was room, each block is the one with its number of the file
abbrev pub HoldsBlocks : List ℕ → ℕ → ℕ → List ℕ → Type 0
HoldsBlocks bytes first room read = (size k : ℕ) → 4096 * k + size ≤ room
    → part_at size read k ≡ part_at size bytes (first + k)

-- ---- the label

-- the bytes at the front of a cartridge are no valid label, of whichever volume
pub record IsBadLabel (block : List ℕ) (why : Reason) : Type 0 where
  pub bad : IsBad 4096 block (volid_in block) 0 why
  pub no_label : (label : Label) → ¬ ValidBlock block label.volid.0 0 (kinds.Label label)

-- there are bytes, and the first isn't `L`
abbrev pub IsClosed : List ℕ → Type 0
IsClosed bytes = (0 < length bytes) × (slice_index bytes 0 ≢ 0x4C)

-- what is found where a label is to stand, of which these bytes are there
abbrev pub FindsLabel : List ℕ → Found → Type 0
FindsLabel block found.Blank = length block ≡ 0
FindsLabel block found.Closed = IsClosed block
FindsLabel block (found.Damaged bad) = (slice_index block 0 ≡ 0x4C) × IsBadLabel block bad.why
FindsLabel block (found.Labelled label) = ValidBlock block label.volid.0 0 (kinds.Label label)

-- what is found on a cartridge
abbrev pub Finds : List ℕ → Found → Type 0
Finds bytes found.Blank = length bytes ≡ 0
Finds bytes found.Closed = IsClosed bytes
Finds bytes (found.Damaged bad) = Committed bytes BadLabel × IsBadLabel (block_at bytes 0) bad.why
Finds bytes (found.Labelled label) = HasLabel bytes label

-- a label that is found is allowed
abbrev pub HasAllowedLabel : Found → Type 0
HasAllowedLabel (found.Labelled label) = IsLabel label
HasAllowedLabel other = Unit {0}

-- ---- marks

-- the bytes at a mark place begin as an open mark, and are no valid one of these units
pub record IsBadMark (block : List ℕ) (volid units number : ℕ) : Type 0 where
  pub opens : slice_index block 0 ≡ 0x46
  pub no_mark : (count : ℕ) → ¬ ValidBlock block volid number (kinds.Mark count units)

-- what is found at a mark place of a volume of so many units, of which these bytes are there: where
-- there are none it is bad
abbrev pub FindsMark : List ℕ → ℕ → ℕ → ℕ → MarkPlace → Type 0
FindsMark block volid units number places.Closed =
    (0 < length block) × (slice_index block 0 ≢ 0x46)
FindsMark block volid units number (places.Open count) =
    ValidBlock block volid number (kinds.Mark count units)
FindsMark block volid units number places.Bad =
    (length block ≡ 0) ⊎ IsBadMark block volid units number

-- the mark counts as many blocks as a mark may
abbrev pub HasCount : MarkPlace → Type 0
HasCount (places.Open count) = (1 ≤ count) × (count ≤ 64)
HasCount other = Unit {0}

-- this is the file with this number, counted from 1
pub record IsFile (files : List CommittedFile) (number : ℕ) (place : FilePlace) : Type 0 where
  pub before : List CommittedFile
  pub file : CommittedFile
  pub after : List CommittedFile
  pub among : files ≡ before ++ file ∷ after
  pub counted : length before + 1 ≡ number
  pub mark : place.mark ≡ file.mark
  pub count : place.count ≡ length file.places

-- the place of the file with this number, where there is one
abbrev pub IsWanted : List CommittedFile → ℕ → Option FilePlace → Type 0
IsWanted files number place =
    MatchOption place ((number ≡ 0) ⊎ (length files < number)) (IsFile files number)

-- the number of the file that is asked for, where there is one: no file has number 0
abbrev pub asked_number : Option ℕ → ℕ
asked_number None = 0
asked_number (Some number) = number

-- A walk over the marks that has come to a mark place: the files before it, whatever comes behind.
pub record HasWalked (bytes : List ℕ) (volid units number : ℕ) (walk : MarkWalk) : Type 0 where
  pub files : List CommittedFile
  pub counted : walk.files ≡ length files
  pub wanted : IsWanted files number walk.wanted
  pub onward : (rest : List CommittedFile) (end : End)
      → FilesFrom bytes volid units walk.end rest end
      → FilesFrom bytes volid units 1 (files ++ rest) end

-- where a walk over all marks ends: the files are those that are committed
pub record WalksOver (bytes : List ℕ) (volid units number : ℕ) (walk : MarkWalk) : Type 0 where
  pub files : List CommittedFile
  pub counted : walk.files ≡ length files
  pub wanted : IsWanted files number walk.wanted
  pub are : FilesFrom bytes volid units 1 files (Closed walk.end)

-- the committed files end at a mark that is invalid, of other units, or not there
abbrev pub StopsAt : List ℕ → ℕ → ℕ → ℕ → Type 0
StopsAt bytes volid units number =
    (files : List CommittedFile) × FilesFrom bytes volid units 1 files (Stop number)

abbrev pub Walks : List ℕ → ℕ → ℕ → ℕ → Result MarkWalk WalkFault → Type 0
Walks bytes volid units number (Ok walk) = WalksOver bytes volid units number walk
Walks bytes volid units number (Err (walks.BadMark place)) = StopsAt bytes volid units place
Walks bytes volid units number (Err walks.Failed) = Unit {0}

-- the numbers of a walk that has come to a mark place are in their ranges
abbrev pub IsWithin : ℕ → FilePlace → ℕ → Type 0
IsWithin units place end = (1 ≤ place.mark) × (1 ≤ place.count) × (place.count ≤ 64)
    × (place.mark + units * place.count < end)

pub record HasRange (limit units : ℕ) (walk : MarkWalk) : Type 0 where
  pub end : (1 ≤ walk.end) × (walk.end < limit)
  pub files : walk.files < walk.end
  pub wanted : MatchOption walk.wanted (Unit {0}) (λ place. IsWithin units place walk.end)

-- ---- mounting

-- what mounting finds on a cartridge
abbrev pub Mounts : List ℕ → ℕ → Result Volume MountFault → Type 0
Mounts bytes cart (Ok volume) =
    (volume.cart.0 ≡ cart)
    × ((files : List CommittedFile)
    × Committed bytes (Labelled volume.label files (Closed volume.mark)))
Mounts bytes cart (Err mounts.Unlabelled) = Committed bytes Unlabelled
Mounts bytes cart (Err (mounts.BadBlock number)) = ((number ≡ 0) × Committed bytes BadLabel)
    ⊎ ((label : Label)
    × ((files : List CommittedFile) × Committed bytes (Labelled label files (Stop number))))
Mounts bytes cart (Err mounts.Failed) = Unit {0}

-- nothing is pending on the file, but where the disk failed
abbrev pub SettlesUnlessFailed : Result Volume MountFault → DiskView → ℕ → Type 0
SettlesUnlessFailed (Err mounts.Failed) disk file = Unit {0}
SettlesUnlessFailed other disk file = Settled disk file
