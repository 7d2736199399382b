-- What each stage of `put` and of `get` answers, and what follows from it.
use Rattle.std.specs.Prelude.{◌≡◌, ◌⊎◌, ℕ, ◌+◌, ◌*◌, ◌≤◌, ◌<◌, ◌^◌, List, [], length, take, drop, codes}
use Rattle.std.specs.Prelude.{Result, Ok, Err}
use Rattle.std.specs.Fmt.{decimal}
use Rattle.room_base.specs.Outside.{later_moments}
use Rattle.room_base.specs.declared.numbers.Cart.{Cart}
use Rattle.room_base.specs.declared.numbers.Moment.{Moment}
use Rattle.room_base.specs.declared.refusal.Refusal.{Refusal}
use Rattle.room_base.specs.declared.refusal.Refusal.TheVariants as refusals
use Rattle.volume_block.specs.declared.label.Label.{Label}
use Rattle.volume_store.specs.Committed.{data_at, IsDataPlace, Damaged, CommittedFile, Committed}
use Rattle.volume_store.specs.Committed.{Unlabelled, BadLabel}
use Rattle.volume_store.specs.declared.marks.FilePlace.{FilePlace}
use Rattle.room_run.specs.Raw.{IsFileOn, IsFirstDamaged, IsDamagedIn}
use Rattle.room_run.specs.Raw.{LacksFile, IsDamagedAt, IsStrange}
use Rattle.room_run.specs.Put.{IsOccupied, IsFull}
use Rattle.room_run.specs.declared.get.DataFault.{DataFault}
use Rattle.room_run.specs.declared.get.DataFault.TheVariants as data_faults
use Rattle.room_run.specs.declared.get.FileFault.{FileFault}
use Rattle.room_run.specs.declared.get.FileFault.TheVariants as file_faults
use Rattle.room_run.specs.declared.input.InputFault.{InputFault}
use Rattle.room_run.specs.declared.input.InputFault.TheVariants as input_faults
use Rattle.room_run.specs.declared.site.Site.{Site}
use Rattle.room_run.specs.declared.site.Site.TheVariants as sites
use Rattle.room_run.specs.declared.site.SiteFault.{SiteFault}
use Rattle.room_run.specs.declared.site.SiteFault.TheVariants as site_faults
use Rattle.room_run.specs.declared.status.Status.{Status}
use Rattle.room_run.specs.declared.status.Status.TheVariants as status

-- the status that is meant, or `Memory` where there is none for its text
abbrev pub IsOrMemory : Status → Status → Type 0
IsOrMemory meant answer = (answer ≡ meant) ⊎ (answer ≡ status.Memory)

-- ---- taking the input

-- the first bytes of the buffer are so many of those that were left, and the others are left
pub record Fills (before after buffer : List ℕ) (taken : ℕ) : Type 0 where
  pub enough : taken ≤ length before
  pub filled : take taken buffer ≡ take taken before
  pub left : after ≡ drop taken before

-- what a fault says of the bytes that were left, and of those that are
abbrev pub JudgesInput : List ℕ → List ℕ → InputFault → Type 0
JudgesInput left after input_faults.Memory = Unit {0}
JudgesInput left after input_faults.Failed = Unit {0}
JudgesInput left after input_faults.Empty = left ≡ []
JudgesInput left after input_faults.TooLong =
    (257024 < length left) × (after ≡ drop 257025 left)

abbrev pub input_status : InputFault → Status
input_status input_faults.Memory = status.Memory
input_status input_faults.Failed = status.ReadFault
input_status input_faults.Empty = status.Refused (refusals.Malformed (codes "input"))
input_status input_faults.TooLong = status.Refused (refusals.TooMany 257024)

-- ---- finding the site of the next file

-- what a fault says of the cartridge
abbrev pub JudgesSite : ℕ → List ℕ → SiteFault → Type 0
JudgesSite size before site_faults.DiskFailed = Unit {0}
JudgesSite size before site_faults.ClockFailed = ¬ (IsOccupied before)
JudgesSite size before site_faults.BadLabel = Committed before BadLabel
JudgesSite size before (site_faults.Damaged volid block) = IsDamagedAt before volid.0 block
JudgesSite size before site_faults.Occupied = (label : Label) × IsStrange before label
JudgesSite size before site_faults.Full = IsFull size before

-- the clock is asked where the cartridge gets a label
abbrev pub SiteAsks : List Moment → List Moment → Result Site SiteFault → Type 0
SiteAsks before now (Ok (sites.New label)) = now ≡ later_moments before
SiteAsks before now (Ok (sites.Next volume number)) = now ≡ before
SiteAsks before now (Err fault) = now ≡ before

-- behind the files of a volume
abbrev pub IsNext : Site → Type 0
IsNext (sites.New label) = ⊥
IsNext (sites.Next volume number) = Unit {0}

-- the label is block 0, and nobody knows its volume
abbrev pub bad_label_refusal : Refusal
bad_label_refusal = refusals.DamagedBlock (record { 0 = 0 }) 0

abbrev pub site_status : ℕ → SiteFault → Status
site_status cart site_faults.BadLabel = status.Refused bad_label_refusal
site_status cart site_faults.DiskFailed = status.DiskFault
site_status cart site_faults.ClockFailed = status.ClockFault
site_status cart (site_faults.Damaged volid block) =
    status.Refused (refusals.DamagedBlock volid block)
site_status cart site_faults.Occupied =
    status.Refused (refusals.Exists (codes "cart") (decimal cart))
site_status cart site_faults.Full = status.Refused (refusals.NeedVolume (codes "Raw"))

-- ---- reading a file

-- what a fault says of the cartridge
abbrev pub JudgesFile : ℕ → List ℕ → FileFault → Type 0
JudgesFile number disk file_faults.Memory = Unit {0}
JudgesFile number disk file_faults.Failed = Unit {0}
JudgesFile number disk file_faults.Unlabelled = Committed disk Unlabelled
JudgesFile number disk file_faults.BadLabel = Committed disk BadLabel
JudgesFile number disk (file_faults.Damaged volid block) =
    IsDamagedAt disk volid.0 block ⊎ IsDamagedIn disk number volid.0 block
JudgesFile number disk (file_faults.Strange volid) =
    (label : Label) × IsStrange disk label × (volid.0 ≡ label.volid.0)
JudgesFile number disk file_faults.NoFile = LacksFile disk number

abbrev pub file_status : Cart → ℕ → FileFault → Status
file_status cart number file_faults.BadLabel = status.Refused bad_label_refusal
file_status cart number file_faults.Memory = status.Memory
file_status cart number file_faults.Failed = status.DiskFault
file_status cart number file_faults.Unlabelled = status.Refused (refusals.Unlabelled cart)
file_status cart number (file_faults.Damaged volid block) =
    status.Refused (refusals.DamagedBlock volid block)
file_status cart number (file_faults.Strange volid) = status.Refused (refusals.Strange volid)
file_status cart number file_faults.NoFile =
    status.Refused (refusals.NoSuch (codes "file") (decimal number))

-- the numbers of a place are in their ranges
abbrev pub IsPlaceWithin : ℕ → FilePlace → Type 0
IsPlaceWithin units place =
    (place.count ≤ 64) × (place.mark + units * place.count < 2 ^ 52)

-- the place of the file with this number on the raw cartridge with this label
abbrev pub IsPlaceOf : List ℕ → ℕ → Label → FilePlace → Type 0
IsPlaceOf disk number label place = (file : CommittedFile) × IsFileOn disk number label file
    × (place.mark ≡ file.mark) × (place.count ≡ length file.places)

-- a data block of so many units was read, or the place is damaged
abbrev pub IsDataRead : List ℕ → ℕ → ℕ → ℕ → List ℕ → Result (Unit {0}) DataFault → Type 0
IsDataRead disk volid units number block (Ok _) = block ≡ data_at units disk number
IsDataRead disk volid units number block (Err data_faults.Memory) = Unit {0}
IsDataRead disk volid units number block (Err data_faults.Failed) = Unit {0}
IsDataRead disk volid units number block (Err (data_faults.Damaged bad)) =
    (bad ≡ number) × IsDataPlace disk volid units number Damaged

-- the first data block of a file that is damaged
abbrev pub JudgesPlaces : ℕ → CommittedFile → DataFault → Type 0
JudgesPlaces units file data_faults.Memory = Unit {0}
JudgesPlaces units file data_faults.Failed = Unit {0}
JudgesPlaces units file (data_faults.Damaged block) = IsFirstDamaged units file block
