-- Which changes are allowed by themselves, whatever the catalogue is that they change.
use Rattle.std.specs.Prelude.{◌≡◌, ℕ, ◌≤◌, ◌<◌, ◌^◌, List, [], ◌∷◌, length}
use Rattle.std.specs.List.{AllByRecursion}
use Rattle.std.specs.Ordering.{nat_cmp}
use Rattle.room_base.specs.Ordered.{Ascends}
use Rattle.room_base.specs.Text.{HasLength, IsPathText}
use Rattle.room_base.specs.declared.numbers.Cart.{Cart}
use Rattle.room_base.specs.declared.numbers.Ssid.{Ssid}
use Rattle.media_db.specs.declared.copies.Section.{Section}
use Rattle.save_stream.specs.declared.entry.EntryKind.{EntryKind}
use Rattle.save_stream.specs.declared.entry.EntryKind.TheVariants as entries
use Rattle.save_stream.specs.declared.entry.IndexEntry.{IndexEntry}
use Rattle.save_stream.specs.Spelling.{IsHead, PathsAscend}
use Rattle.catalog_change.specs.declared.change.Change.{Change}
use Rattle.catalog_change.specs.declared.change.Change.TheVariants.{
  Defined,
  Dropped,
  Loaded,
  Ejected,
  Labelled,
  Begun,
  Finished,
  Aborted,
  Amended,
  Deleted,
  Purged,
  CopyBegun,
  CopyDone,
  IndexPart,
  FinishedParts,
}
use Rattle.catalog_change.specs.Resources.{IsResource, IsShortName}

-- a count of four bytes
abbrev pub IsCount : ℕ → Type 0
IsCount count = count < 2 ^ 32

-- ---- sections

pub record IsSection (section : Section) : Type 0 where
  pub blocks : section.first ≤ section.last
  pub bytes : section.from < section.to

-- sections that follow each other, the first from this offset on
abbrev pub FollowFrom : ℕ → List Section → Type 0
FollowFrom from [] = Unit {0}
FollowFrom from (section ∷ sections) =
    IsSection section × (section.from ≡ from) × FollowFrom section.to sections

-- the sections of a copy that is done: there are some, the first begins at 0, and each further one
-- where the one before ends
pub record AreSections (sections : List Section) : Type 0 where
  pub some : 1 ≤ length sections
  pub count : IsCount (length sections)
  pub follow : FollowFrom 0 sections

-- ---- indexes

-- what an entry of a kind may have beside its path
abbrev pub HasOnlyItsFields : EntryKind → IndexEntry → Type 0
HasOnlyItsFields entries.File entry = Unit {0}
HasOnlyItsFields entries.Folder entry = (entry.size ≡ 0) × (entry.place ≡ 0)
HasOnlyItsFields entries.Gone entry = (entry.mtime ≡ 0) × (entry.size ≡ 0) × (entry.place ≡ 0)

pub record IsEntry (entry : IndexEntry) : Type 0 where
  pub length : HasLength 1024 entry.path
  pub path : IsPathText entry.path
  pub fields : HasOnlyItsFields entry.kind entry

pub record AreEntries (index : List IndexEntry) : Type 0 where
  pub each : AllByRecursion IsEntry index
  pub order : PathsAscend index
  pub count : IsCount (length index)

-- ---- numbers

abbrev pub IsCart : Cart → Type 0
IsCart cart = (1 ≤ cart.0) × (cart.0 ≤ 256)

-- the blocks of a volume, of whatever size
abbrev pub IsCapacity : ℕ → Type 0
IsCapacity capacity = (67 ≤ capacity) × (capacity ≤ 1000000)

abbrev pub ssid_number : Ssid → ℕ
ssid_number ssid = ssid.0

-- the most entries of a part of an index
abbrev pub max_part : ℕ
max_part = 10000

-- ---- changes

-- The fields of a change are those that its text may have. Slots, and whether what a change names
-- is there, are judged by the catalogue.
abbrev pub IsChange : Change → Type 0
IsChange (Defined resources) = IsCount (length resources) × AllByRecursion IsResource resources
IsChange (Dropped kind name) = IsShortName name
IsChange (Loaded slot cart) = Unit {0}
IsChange (Ejected slot) = Unit {0}
IsChange (Labelled volid cart pool capacity was) =
    (1 ≤ volid.0) × IsShortName pool × IsCapacity capacity
IsChange (Begun head) = IsHead head
IsChange (Finished ssid files bytes digest sections index) =
    AreSections sections × AreEntries index
IsChange (Aborted ssid) = Unit {0}
IsChange (Amended ssid browse retain hold) = Unit {0}
IsChange (Deleted ssid) = Unit {0}
IsChange (Purged ssids) = IsCount (length ssids) × Ascends nat_cmp ssid_number ssids
IsChange (CopyBegun ssid copy) = Unit {0}
IsChange (CopyDone ssid copy sections removed) = AreSections sections
IsChange (IndexPart ssid part index) =
    AreEntries index × (1 ≤ length index) × (length index ≤ max_part)
IsChange (FinishedParts ssid files bytes digest sections) =
    (max_part < files) × AreSections sections
