-- What the steps of reading a range do: how many bytes in a row one chunk gives, and how many in a
-- row are known to be lacking.
use Rattle.std.specs.Prelude.{◌≡◌, ℕ, ◌+◌, ◌≤◌, ◌<◌, List, length, slice_index, Bool}
use Rattle.std.specs.Prelude.{true, false, Option, Some, None, Result, Ok, Err}
use Rattle.volume_block.specs.Chunks.{ChunkText, ssid_in, copy_in, offset_in, count_in}
use Rattle.volume_block.specs.declared.block.Chunk.{Chunk}
use Rattle.volume_block.specs.Valid.{HoldsChunks}
use Rattle.volume_block.specs.declared.block.Block.{Block}
use Rattle.volume_block.specs.declared.block.Block.TheVariants as kinds
use Rattle.volume_block.specs.declared.label.Label.{Label}
use Rattle.volume_store.specs.Reads.{StandsAt}
use Rattle.recover_files.specs.Sections.{HasChunks, IsInvalid}
use Rattle.media_db.specs.declared.copies.SetCopy.{SetCopy}
use Rattle.recover_files.specs.StreamAt.{Shelf, CopiesGive, CopiesAnswer, Blames}
use Rattle.recover_files.specs.declared.fault.RangeFault.{RangeFault}
use Rattle.recover_files.specs.declared.fault.RangeFault.TheVariants.{Failed}
use Rattle.recover_files.specs.declared.run.Run.{Run}

-- the chunk that was found is one of this copy, and covers the place
pub record FoundCovers (ssid copy place : ℕ) (found : Chunk) : Type 0 where
  pub set : found.ssid.0 ≡ ssid
  pub of_copy : found.copy.0 ≡ copy
  pub from : found.offset ≤ place
  pub to : place < found.offset + found.length

-- what is found at the front of a text that begins at this place of a payload
pub record IsHeadOf (text : List ℕ) (at : ℕ) (found : Chunk) : Type 0 where
  pub ssid : found.ssid.0 ≡ ssid_in text
  pub copy : found.copy.0 ≡ copy_in text
  pub offset : found.offset ≡ offset_in text
  pub count : found.length ≡ count_in text
  pub start : found.start ≡ at + 80
  pub next : found.next ≡ at + 24 + found.length
  pub fits : 24 + found.length ≤ length text

-- The bytes that a run counts are those from the place on. Where it counts none, as many as it says
-- are clear are lacking from the place on.
pub record IsRun (Gives : ℕ → ℕ → Type 0) (Lacks : ℕ → Type 0) (place : ℕ) (bytes : List ℕ)
    (run : Run) : Type 0 where
  pub given : (i : ℕ) → i < run.count → Gives (place + i) (slice_index bytes i)
  pub clear : run.count ≡ 0 → (i : ℕ) → i < run.clear → Lacks (place + i)

-- no more bytes than were wanted
pub record HasBounds (most : ℕ) (run : Run) : Type 0 where
  pub count : run.count ≤ most
  pub clear : run.clear ≤ most
  pub some : 1 ≤ run.clear

-- Whether bytes that were read from there are a valid data block.
abbrev pub JudgesData : List ℕ → ℕ → ℕ → List ℕ → Bool → Type 0
JudgesData file volid number bytes true =
    (chunks : List ChunkText) × ((units : ℕ) × HoldsChunks bytes volid number units chunks)
    × HasChunks file volid number chunks
JudgesData file volid number bytes false = IsInvalid file volid number

abbrev pub TellsValid : List ℕ → ℕ → ℕ → Bool → Type 0
TellsValid file volid number true = ¬ IsInvalid file volid number
TellsValid file volid number false = IsInvalid file volid number

-- ---- the block at a place

-- the valid block there, if there is one
abbrev pub IsFoundAt : List ℕ → ℕ → ℕ → Option Block → Type 0
IsFoundAt bytes volid number None = (other : Block) → ¬ StandsAt bytes volid number other
IsFoundAt bytes volid number (Some found) = StandsAt bytes volid number found

-- the units of the valid mark there, of the valid label
abbrev pub TellsMark : List ℕ → ℕ → ℕ → Option ℕ → Type 0
TellsMark bytes volid number None =
    (count units : ℕ) → ¬ StandsAt bytes volid number (kinds.Mark count units)
TellsMark bytes volid number (Some units) =
    (count : ℕ) × StandsAt bytes volid number (kinds.Mark count units)

abbrev pub TellsLabel : List ℕ → ℕ → ℕ → Option ℕ → Type 0
TellsLabel bytes volid number None =
    (label : Label) → ¬ StandsAt bytes volid number (kinds.Label label)
TellsLabel bytes volid number (Some units) =
    (label : Label) × StandsAt bytes volid number (kinds.Label label) × (units ≡ label.units)

-- ---- copies

-- the bytes in a row that copies give from a place on, or why the one there can't be had
abbrev pub CopiesRun : Shelf → ℕ → List SetCopy → ℕ → List ℕ → Result ℕ RangeFault → Type 0
CopiesRun shelf ssid copies place bytes (Ok count) = (i : ℕ) → i < count
    → CopiesGive shelf ssid copies (place + i) (slice_index bytes i)
CopiesRun shelf ssid copies place bytes (Err (Failed file)) = Unit {0}
CopiesRun shelf ssid copies place bytes (Err fault) =
    CopiesAnswer shelf ssid copies place (Err fault)

-- the disk failed
abbrev pub IsFailed : RangeFault → Type 0
IsFailed (Failed file) = Unit {0}
IsFailed other = ⊥

-- what is blamed, but where the disk failed
abbrev pub BlamesOrFails : Shelf → List SetCopy → ℕ → RangeFault → Type 0
BlamesOrFails shelf copies place (Failed file) = Unit {0}
BlamesOrFails shelf copies place fault = Blames shelf copies place fault
