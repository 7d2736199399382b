-- What `put` answers and leaves.
use Rattle.std.specs.Prelude.{◌≡◌, ◌⊎◌, ℕ, ◌+◌, ◌*◌, ◌≤◌, ◌<◌, List, [], ◌∷◌, ◌++◌, length, min, codes}
use Rattle.std.specs.Prelude.{slice_index}
use Rattle.std.specs.Fmt.{decimal}
use Rattle.std.specs.Int.{div_ceil}
use Rattle.room_base.specs.Numbers.{max_moment}
use Rattle.room_base.specs.Outside.{ClockView, Told, IsFirstMoment}
use Rattle.room_base.specs.declared.numbers.Moment.{Moment}
use Rattle.volume_block.specs.Chunks.{ChunkText}
use Rattle.volume_block.specs.Valid.{IsLabel}
use Rattle.chunk_mux.specs.Packing.{payload_size, chunk_size}
use Rattle.volume_block.specs.declared.label.Label.{Label}
use Rattle.volume_store.specs.Committed.{CommittedFile, Committed, Unlabelled, Labelled, Closed}
use Rattle.volume_store.specs.Writes.{without_files, with_file, IsBeingLabelled}
use Rattle.room_run.specs.Raw.{raw_label, IsRawCartridge, FileHolds}
use Rattle.room_run.specs.declared.site.Site.{Site}
use Rattle.room_run.specs.declared.site.Site.TheVariants as sites

-- an input that becomes a file
abbrev pub HasSize : List ℕ → Type 0
HasSize bytes = (1 ≤ length bytes) × (length bytes ≤ 257024)

-- how many data blocks of so many units so many bytes take
abbrev pub blocks_for : ℕ → ℕ → ℕ
blocks_for units size = div_ceil size (chunk_size (payload_size units))

-- the first byte of a cartridge opens a label
abbrev pub IsOccupied : List ℕ → Type 0
IsOccupied disk = slice_index disk 0 ≡ 0x4C

-- a label gets the first moment that the clock has, or the greatest that is written
abbrev pub IsMade : ClockView → ℕ → Type 0
IsMade clock made =
    Told clock.tells
    ((first : Moment) × IsFirstMoment clock.moments first × (made ≡ min first.0 max_moment))

-- the label that a cartridge without one gets
abbrev pub IsNewLabel : ClockView → ℕ → Label → Type 0
IsNewLabel clock cart label = (made : ℕ) × IsMade clock made × (label ≡ raw_label cart made)

-- What stood on the cartridge before a file came to it: no label, and it gets a raw one first; or a
-- raw one and these files.
abbrev pub HadFiles : ClockView → ℕ → List ℕ → Label → List CommittedFile → Type 0
HadFiles clock cart before label files =
    (¬ (IsOccupied before) × (files ≡ []) × IsNewLabel clock cart label)
    ⊎ ((mark : ℕ) × IsRawCartridge before label files mark)

-- the cartridge has one file more than before, with this number, and it holds these bytes
pub record HasOneFileMore (clock : ClockView) (cart : ℕ) (bytes before : List ℕ) (number : ℕ)
    (after : List ℕ) : Type 0 where
  pub label : Label
  pub files : List CommittedFile
  pub file : CommittedFile
  pub end : ℕ
  pub had : HadFiles clock cart before label files
  pub counted : number ≡ length files + 1
  pub stands : Committed after (Labelled label (files ++ file ∷ []) (Closed end))
  pub holds : FileHolds number file bytes

-- the raw cartridge has the files that it had
abbrev pub HasOldFiles : List ℕ → List ℕ → Type 0
HasOldFiles before disk = (label : Label) × ((files : List CommittedFile) × ((mark : ℕ)
    × IsRawCartridge before label files mark × Committed disk (Labelled label files (Closed mark))))

-- the cartridge has no file: it has no label, or a raw one alone
abbrev pub HasNoFile : ClockView → ℕ → List ℕ → Type 0
HasNoFile clock cart disk =
    Committed disk Unlabelled
    ⊎ ((label : Label) × IsNewLabel clock cart label × Committed disk (without_files label))

-- What a crash may leave of the cartridge: what it was; the files that it had; no file, where it
-- had none; or one file more, whole.
abbrev pub IsPut : ClockView → ℕ → List ℕ → List ℕ → List ℕ → Type 0
IsPut clock cart bytes before disk =
    (disk ≡ before) ⊎ HasOldFiles before disk ⊎ (¬ (IsOccupied before) × HasNoFile clock cart disk)
    ⊎ ((number : ℕ) × HasOneFileMore clock cart bytes before number disk)

-- While a cartridge gets its first file it is as it was, has no label, or has the new label with no
-- file or this one.
abbrev pub IsFirstFile : Label → List (List ChunkText) → List ℕ → List ℕ → Type 0
IsFirstFile label blocks before disk =
    IsBeingLabelled label before disk ⊎ Committed disk (with_file label [] 1 blocks)

-- what `put` prints
abbrev pub kept_line : ℕ → ℕ → ℕ → List ℕ
kept_line size number cart =
    codes "kept " ++ (decimal size ++ (codes " bytes as file " ++ (decimal number
    ++ (codes " of cart " ++ (decimal cart ++ codes "\n")))))

-- ---- the site of the next file

-- it is where the next file of the cartridge goes
abbrev pub IsSite : ClockView → ℕ → List ℕ → Site → Type 0
IsSite clock cart before (sites.New label) = ¬ (IsOccupied before) × IsNewLabel clock cart label
IsSite clock cart before (sites.Next volume number) =
    (files : List CommittedFile) × IsRawCartridge before volume.label files volume.mark
    × (number ≡ length files + 1)

-- there is room for so many bytes, and all numbers are in their ranges
abbrev pub IsSiteFor : ℕ → ℕ → Site → Type 0
IsSiteFor cart size (sites.New label) =
    (label.cart.0 ≡ cart) × IsLabel label
    × (label.units * blocks_for label.units size + 3 ≤ label.capacity)
IsSiteFor cart size (sites.Next volume number) =
    (volume.cart.0 ≡ cart) × IsLabel volume.label × (1 ≤ volume.mark)
    × (volume.mark + volume.label.units * blocks_for volume.label.units size + 2
    ≤ volume.label.capacity) × (1 ≤ number)

-- there is room for so many data blocks
abbrev pub HasRoom : ℕ → ℕ → Site → Type 0
HasRoom cart count (sites.New label) =
    (label.cart.0 ≡ cart) × IsLabel label × (label.units * count + 3 ≤ label.capacity)
HasRoom cart count (sites.Next volume number) =
    (volume.cart.0 ≡ cart)
    × (volume.mark + volume.label.units * count + 2 ≤ volume.label.capacity)

abbrev pub site_number : Site → ℕ
site_number (sites.New label) = 1
site_number (sites.Next volume number) = number

abbrev pub site_mark : Site → ℕ
site_mark (sites.New label) = 1
site_mark (sites.Next volume number) = volume.mark

abbrev pub site_volid : Site → ℕ
site_volid (sites.New label) = label.volid.0
site_volid (sites.Next volume number) = volume.label.volid.0

abbrev pub site_units : Site → ℕ
site_units (sites.New label) = label.units
site_units (sites.Next volume number) = volume.label.units

-- a raw cartridge that has no room for so many bytes
abbrev pub IsFull : ℕ → List ℕ → Type 0
IsFull size before = (label : Label) × ((files : List CommittedFile) × ((mark : ℕ)
    × IsRawCartridge before label files mark × (label.capacity < mark + label.units * blocks_for label.units size + 2)))
