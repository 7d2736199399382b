-- The bytes of a save set's stream, whichever of its copies they are read from.
use Rattle.std.specs.Prelude.{◌≡◌, ◌⊎◌, ℕ, ◌+◌, ◌<◌, ◌≤◌, ◌==◌, ◌&&◌, nat_le, nat_lt, Bool, List}
use Rattle.std.specs.Prelude.{[], ◌∷◌, length, slice_index, Option, Some, None, Result, Ok, Err}
use Rattle.std.specs.Prelude.{if◌then◌else◌}
use Rattle.std.specs.List.{AllByRecursion, find, list_any}
use Rattle.std.specs.Option.{option_map, option_and_then, option_or}
use Rattle.room_base.specs.Faults.{Rose}
use Rattle.room_base.specs.declared.numbers.Volid.{Volid}
use Rattle.room_base.specs.declared.numbers.Cart.{Cart}
use Rattle.room_disk.specs.Disk.{DiskView, Image}
use Rattle.volume_store.specs.Writes.{cart_file, IsCart}
use Rattle.media_db.specs.Edits.{is_done}
use Rattle.media_db.specs.Rows.{Database, find_record, find_volume}
use Rattle.media_db.specs.declared.copies.Section.{Section}
use Rattle.media_db.specs.declared.copies.SetCopy.{SetCopy}
use Rattle.media_db.specs.declared.records.Record.{Record}
use Rattle.media_db.specs.declared.volumes.VolumeRec.{VolumeRec}
use Rattle.recover_files.specs.Sections.{SectionGives, SectionLacks, IsBlamed}
use Rattle.recover_files.specs.declared.spots.Spot.{Spot}
use Rattle.recover_files.specs.declared.fault.RangeFault.{RangeFault}
use Rattle.recover_files.specs.declared.fault.RangeFault.TheVariants.{Offsite, Damaged, Failed}

-- ---- what is asked of a database

-- sections that follow one another, the first from this offset on
abbrev pub Follow : ℕ → List Section → Type 0
Follow from [] = Unit {0}
Follow from (section ∷ sections) =
    (section.from ≡ from) × (section.from < section.to) × Follow section.to sections

abbrev pub HasSections : SetCopy → Type 0
HasSections copy = Follow 0 copy.sections

abbrev pub LiesOnCart : VolumeRec → Type 0
LiesOnCart volume = IsCart volume.cart.0

-- the sections of each copy follow one another, and volumes lie on cartridges that there are
pub record IsOrderly (db : Database) : Type 0 where
  pub copies : AllByRecursion (λ row. AllByRecursion HasSections row.copies) db.records
  pub carts : AllByRecursion LiesOnCart db.volumes

-- ---- where a byte may lie

-- the copies of a save set, in the order of their numbers; none of one that isn't on record
abbrev pub copies_in : Option Record → List SetCopy
copies_in (Some row) = row.copies
copies_in None = []

abbrev pub copies_of : ℕ → List Record → List SetCopy
copies_of ssid rows = copies_in (find_record ssid rows)

abbrev pub covers_place : ℕ → Section → Bool
covers_place place section = nat_le section.from place && nat_lt place section.to

-- the section of a copy at a place of the stream; a copy that isn't done has none
abbrev pub section_at : ℕ → SetCopy → Option Section
section_at place copy =
    if is_done copy.state then find (covers_place place) copy.sections else None

-- the cartridge of a volume that is in a slot and on record
abbrev pub cart_at_home : List VolumeRec → List Volid → Volid → Option Cart
cart_at_home volumes home volid =
    if list_any (λ one. one.0 == volid.0) home
    then option_map (λ volume. volume.cart) (find_volume volid.0 volumes) else None

-- a section in a slot, and the cartridge that it is on
abbrev pub spot_of : List VolumeRec → List Volid → Section → Option Spot
spot_of volumes home section =
    option_map (λ cart. record { section = section; cart = cart })
    (cart_at_home volumes home section.volid)

-- the section of a copy at a place, where it is in a slot
abbrev pub spot_at : List VolumeRec → List Volid → ℕ → SetCopy → Option Spot
spot_at volumes home place copy = option_and_then (spot_of volumes home) (section_at place copy)

-- ---- what a copy gives

-- volumes on record, those in slots, and what the files of the disk read
pub record Shelf : Type 0 where
  pub volumes : List VolumeRec
  pub home : List Volid
  pub reads : Image

abbrev pub bytes_of : Shelf → Spot → List ℕ
bytes_of shelf spot = shelf.reads (cart_file spot.cart.0)

-- its section at the place is in a slot, and gives this byte
pub record CopyGives (shelf : Shelf) (ssid : ℕ) (copy : SetCopy) (place byte : ℕ) : Type 0 where
  pub spot : Spot
  pub at : spot_at shelf.volumes shelf.home place copy ≡ Some spot
  pub gives : SectionGives (bytes_of shelf spot) spot.section ssid copy.no.0 place byte

-- it has no section at the place, or none in a slot, or that doesn't cover it
abbrev pub CopyLacks : Shelf → ℕ → SetCopy → ℕ → Type 0
CopyLacks shelf ssid copy place = (spot : Spot)
    → spot_at shelf.volumes shelf.home place copy ≡ Some spot
    → SectionLacks (bytes_of shelf spot) spot.section ssid copy.no.0 place

-- the first of the copies that gives a byte gives this one
abbrev pub CopiesGive : Shelf → ℕ → List SetCopy → ℕ → ℕ → Type 0
CopiesGive shelf ssid [] place byte = ⊥
CopiesGive shelf ssid (copy ∷ copies) place byte = CopyGives shelf ssid copy place byte
    ⊎ (CopyLacks shelf ssid copy place × CopiesGive shelf ssid copies place byte)

-- none of the copies gives one
abbrev pub CopiesLack : Shelf → ℕ → List SetCopy → ℕ → Type 0
CopiesLack shelf ssid [] place = Unit {0}
CopiesLack shelf ssid (copy ∷ copies) place =
    CopyLacks shelf ssid copy place × CopiesLack shelf ssid copies place

-- ---- what is said where no copy gives it

-- the section at the place of the first copy that has one, and of the first that has one in a slot
abbrev pub first_section : ℕ → List SetCopy → Option Section
first_section place [] = None
first_section place (copy ∷ copies) =
    option_or (section_at place copy) (first_section place copies)

abbrev pub first_spot : List VolumeRec → List Volid → ℕ → List SetCopy → Option Spot
first_spot volumes home place [] = None
first_spot volumes home place (copy ∷ copies) =
    option_or (spot_at volumes home place copy) (first_spot volumes home place copies)

-- the block of that spot that is to blame; where there is no spot, no copy has a section there
abbrev pub BlamesSpot : Shelf → Option Spot → Option Section → Volid → ℕ → Type 0
BlamesSpot shelf (Some spot) section volid block =
    (volid ≡ spot.section.volid) × IsBlamed (bytes_of shelf spot) spot.section block
BlamesSpot shelf None section volid block = (section ≡ None) × (volid.0 ≡ 0) × (block ≡ 0)

abbrev pub Blames : Shelf → List SetCopy → ℕ → RangeFault → Type 0
Blames shelf copies place (Damaged volid block) =
    BlamesSpot shelf (first_spot shelf.volumes shelf.home place copies)
    (first_section place copies) volid block
Blames shelf copies place (Offsite volid) =
    (first_spot shelf.volumes shelf.home place copies ≡ None)
    × ((section : Section) × (first_section place copies ≡ Some section)
    × (volid ≡ section.volid))
Blames shelf copies place (Failed file) = ⊥

-- ---- a byte of a stream

-- the byte at a place of a copied stream, or why it can't be had
abbrev pub CopiesAnswer : Shelf → ℕ → List SetCopy → ℕ → Result ℕ RangeFault → Type 0
CopiesAnswer shelf ssid copies place (Ok byte) = CopiesGive shelf ssid copies place byte
CopiesAnswer shelf ssid copies place (Err fault) =
    CopiesLack shelf ssid copies place × Blames shelf copies place fault

abbrev pub StreamAt : Shelf → List Record → ℕ → ℕ → Result ℕ RangeFault → Type 0
StreamAt shelf rows ssid place answer =
    CopiesAnswer shelf ssid (copies_of ssid rows) place answer

-- ---- a range of a stream

-- the first so many of these bytes are those from the place on
abbrev pub AreBytes : Shelf → List Record → ℕ → ℕ → ℕ → List ℕ → Type 0
AreBytes shelf rows ssid from count bytes =
    (i : ℕ) → i < count → StreamAt shelf rows ssid (from + i) (Ok (slice_index bytes i))

-- the first byte that can't be had, and why
pub record FailsFirst (shelf : Shelf) (rows : List Record) (ssid from : ℕ) (bytes : List ℕ)
    (fault : RangeFault) : Type 0 where
  pub count : ℕ
  pub within : count < length bytes
  pub before : AreBytes shelf rows ssid from count bytes
  pub fails : StreamAt shelf rows ssid (from + count) (Err fault)

-- what reading a range gives: all of its bytes, or why the first can't be had that can't
abbrev pub GivesRange : {T : Type 0} → Shelf → List Record → ℕ → ℕ → List ℕ
    → Result T RangeFault → Type 0
GivesRange shelf rows ssid from bytes (Ok _) = AreBytes shelf rows ssid from (length bytes) bytes
GivesRange shelf rows ssid from bytes (Err (Failed file)) = Unit {0}
GivesRange shelf rows ssid from bytes (Err fault) = FailsFirst shelf rows ssid from bytes fault

-- no count of faults falls, and a file is said to have failed only where its count rose
pub record RangeCause {T : Type 0} (old new : DiskView) (answer : Result T RangeFault) :
    Type 0 where
  pub later : (file : ℕ) → old.faults file ≤ new.faults file
  pub cause : (file : ℕ) → answer ≡ Err (Failed file) → Rose (old.faults file) (new.faults file)

abbrev pub shelf_of : Database → List Volid → Image → Shelf
shelf_of db home reads = record { volumes = db.volumes; home = home; reads = reads }
