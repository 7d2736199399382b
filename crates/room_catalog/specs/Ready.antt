-- What a change that is applied takes of the room, and when it is ready.
use Rattle.std.specs.Prelude.{◌≡◌, ℕ, ◌+◌, ◌*◌, ◌≤◌, ◌<◌, List, [], length}
use Rattle.catalog_change.specs.declared.change.Change.{Change}
use Rattle.catalog_change.specs.declared.change.Change.TheVariants.{
  Begun,
  CopyBegun,
  CopyDone,
  Defined,
  Finished,
  FinishedParts,
  IndexPart,
  Labelled,
  Loaded,
}
use Rattle.catalog_change.specs.declared.resource.Resource.{Resource}
use Rattle.catalog_change.specs.Changes.{IsCount, max_part}
use Rattle.catalog_change.specs.Catalogues.{resource_count}
use Rattle.room_catalog.specs.Fits.{max_copies}
use Rattle.room_catalog.specs.Held.{CatalogueRoom, HeldCatalogue, catalogue_of}
use Rattle.resource_lists.specs.Room.{HasRoomFor, KeepsRoomBeside}

-- ---- changes

-- The change can be applied without taking memory, and each count stays one of four bytes.
abbrev pub IsReady : HeldCatalogue → Change → Type 0
IsReady held (Defined new) =
    HasRoomFor held.room.resources new
    × IsCount (resource_count (catalogue_of held.lists) + length new)
IsReady held (Loaded slot cart) = 0 < held.room.slots
IsReady held (Labelled volid cart pool capacity was) =
    (0 < held.room.volumes) × IsCount (length held.lists.volumes + 1)
IsReady held (Begun head) =
    (0 < held.room.records) × (0 < held.room.copies) × IsCount (length held.lists.records + 1)
IsReady held (Finished ssid files bytes digest sections index) =
    0 < held.room.indexes
IsReady held (CopyBegun ssid copy) = max_copies ≤ held.room.copies
IsReady held (IndexPart ssid part index) = max_part * part + length index ≤ held.room.entries
IsReady held (FinishedParts ssid files bytes digest sections) =
    0 < held.room.indexes
IsReady held _ = Unit {0}

-- ---- what it takes

abbrev pub resources_taken : Change → List Resource
resources_taken (Defined new) = new
resources_taken _ = []

abbrev pub slots_taken : Change → ℕ
slots_taken (Loaded slot cart) = 1
slots_taken _ = 0

abbrev pub volumes_taken : Change → ℕ
volumes_taken (Labelled volid cart pool capacity was) = 1
volumes_taken _ = 0

abbrev pub records_taken : Change → ℕ
records_taken (Begun head) = 1
records_taken _ = 0

abbrev pub indexes_taken : Change → ℕ
indexes_taken (Finished ssid files bytes digest sections index) = 1
indexes_taken (FinishedParts ssid files bytes digest sections) = 1
indexes_taken _ = 0

-- of the room for the entries of parts nothing is left behind the change that closes them
abbrev pub entries_left : Change → ℕ → ℕ
entries_left (FinishedParts ssid files bytes digest sections) room = 0
entries_left _ room = room

-- the list of copies goes with the record that takes it
abbrev pub copies_left : Change → ℕ → ℕ
copies_left (Begun head) room = 0
copies_left (CopyBegun ssid copy) room = 0
copies_left _ room = room

-- all other room is no less
pub record TakesRoom (change : Change) (before after : CatalogueRoom) : Type 0 where
  pub resources : KeepsRoomBeside (resources_taken change) before.resources after.resources
  pub slots : before.slots ≤ after.slots + slots_taken change
  pub volumes : before.volumes ≤ after.volumes + volumes_taken change
  pub records : before.records ≤ after.records + records_taken change
  pub indexes : before.indexes ≤ after.indexes + indexes_taken change
  pub entries : entries_left change before.entries ≤ after.entries
  pub copies : copies_left change before.copies ≤ after.copies

-- no room is less
pub record KeepsRoom (before after : CatalogueRoom) : Type 0 where
  pub resources : KeepsRoomBeside [] before.resources after.resources
  pub slots : before.slots ≤ after.slots
  pub volumes : before.volumes ≤ after.volumes
  pub records : before.records ≤ after.records
  pub indexes : before.indexes ≤ after.indexes
  pub entries : before.entries ≤ after.entries
  pub copies : before.copies ≤ after.copies

-- the second change stays ready when the first is applied
abbrev pub MayGoBefore : Change → Change → Type 0
MayGoBefore first (Finished ssid files bytes digest sections index) = indexes_taken first ≡ 0
MayGoBefore first (FinishedParts ssid files bytes digest sections) = indexes_taken first ≡ 0
MayGoBefore first (IndexPart ssid part index) = entries_left first 1 ≡ 1
MayGoBefore first (CopyDone ssid copy sections removed) = Unit {0}
MayGoBefore first _ = ⊥
