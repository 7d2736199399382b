-- Changes as bytes: a kind byte and fields, behind a moment.
use Rattle.std.specs.Prelude.{◌≡◌, ℕ, ◌<◌, ◌^◌, Bool, true, nat_lt}
use Rattle.std.specs.Prelude.{List, [], ◌∷◌, ◌++◌, length, Ok}
use Rattle.std.specs.List.{AllByRecursion}
use Rattle.room_base.specs.declared.numbers.Ssid.{Ssid}
use Rattle.media_db.specs.declared.copies.Section.{Section}
use Rattle.save_stream.specs.Spelling.{short_text, head_text}
use Rattle.catalog_change.specs.declared.change.Change.{Change}
use Rattle.catalog_change.specs.declared.change.Change.TheVariants.{
  Defined,
  Dropped,
  Loaded,
  Ejected,
  Labelled,
  Begun,
  Finished,
  Aborted,
  Amended,
  Deleted,
  Purged,
  CopyBegun,
  CopyDone,
  IndexPart,
  FinishedParts,
}
use Rattle.catalog_change.specs.declared.resource.Resource.{Resource}
use Rattle.catalog_spelling.specs.Reading.{Part, ◌>>=◌, checked}
use Rattle.catalog_spelling.specs.Fields.{
  byte_text,
  byte_at,
  number_bytes,
  number_at,
  number_within_at,
  number_above_at,
  bytes_at,
  moment_at,
  code_at,
  flags,
  flag_byte,
  name_at,
}
use Rattle.catalog_spelling.specs.Lists.{list_at, list_text, last_item, by_item}
use Rattle.catalog_spelling.specs.Kinds.{Readers, by_kind_at}
use Rattle.catalog_spelling.specs.Sections.{sections_at, sections_text, FitsSection}
use Rattle.catalog_spelling.specs.Entries.{index_at, index_text, FitsEntry}
use Rattle.catalog_spelling.specs.Resources.{
  resource_at,
  resource_text,
  resource_kinds,
  resource_byte,
  FitsResource,
}
use Rattle.catalog_spelling.specs.Heads.{head_at}

-- ---- lists

-- the greatest count of four bytes
abbrev pub max_count : ℕ
max_count = 4294967295

abbrev pub resources_at : List ℕ → Part (List Resource)
resources_at bytes = list_at (number_within_at 4 0 max_count) (λ before. resource_at) bytes

abbrev pub resources_text : List Resource → List ℕ
resources_text resources = list_text (number_bytes 4) resource_text resources

abbrev pub ssid_text : Ssid → List ℕ
ssid_text ssid = number_bytes 8 ssid.0

-- a number stands above the last of these
abbrev pub is_next_ssid : List Ssid → ℕ → Bool
is_next_ssid before number = by_item true (λ last. nat_lt last.0 number) (last_item before)

unfoldable pub ssid_at : List Ssid → List ℕ → Part Ssid
ssid_at before bytes = do
  ssid ← checked (is_next_ssid before) bytes (number_at 8 bytes)
  Ok (record { 0 = ssid.0 }, ssid.1)

abbrev pub ssids_at : List ℕ → Part (List Ssid)
ssids_at bytes = list_at (number_within_at 4 0 max_count) ssid_at bytes

abbrev pub ssids_text : List Ssid → List ℕ
ssids_text ssids = list_text (number_bytes 4) ssid_text ssids

-- ---- how the fields of each kind are spelled

abbrev pub change_byte : Change → ℕ
change_byte (Defined resources) = 1
change_byte (Dropped kind name) = 2
change_byte (Loaded slot cart) = 3
change_byte (Ejected slot) = 4
change_byte (Labelled volid cart pool capacity was) = 5
change_byte (Begun head) = 6
change_byte (Finished ssid files bytes digest sections index) = 7
change_byte (Aborted ssid) = 8
change_byte (Amended ssid browse retain hold) = 9
change_byte (Deleted ssid) = 10
change_byte (Purged ssids) = 11
change_byte (CopyBegun ssid copy) = 12
change_byte (CopyDone ssid copy sections removed) = 13
change_byte (IndexPart ssid part index) = 14
change_byte (FinishedParts ssid files bytes digest sections) = 15

-- what a stream leaves behind: how many files and bytes it has, its digest and where it lies
abbrev pub stream_text : Ssid → ℕ → ℕ → List ℕ → List Section → List ℕ
stream_text ssid files bytes digest sections =
    number_bytes 8 ssid.0 ++ number_bytes 4 files ++ number_bytes 8 bytes ++ digest
    ++ sections_text sections

abbrev pub fields_text : Change → List ℕ
fields_text (Defined resources) = resources_text resources
fields_text (Dropped kind name) = byte_text (resource_byte kind) ++ short_text name
fields_text (Loaded slot cart) = byte_text slot ++ number_bytes 4 cart.0
fields_text (Ejected slot) = byte_text slot
fields_text (Labelled volid cart pool capacity was) =
    number_bytes 8 volid.0 ++ number_bytes 4 cart.0 ++ short_text pool ++ number_bytes 4 capacity
    ++ number_bytes 8 was.0
fields_text (Begun head) = head_text head
fields_text (Finished ssid files bytes digest sections index) =
    stream_text ssid files bytes digest sections ++ index_text index
fields_text (Aborted ssid) = number_bytes 8 ssid.0
fields_text (Amended ssid browse retain hold) =
    number_bytes 8 ssid.0 ++ number_bytes 8 browse.0 ++ number_bytes 8 retain.0
    ++ byte_text (flag_byte hold)
fields_text (Deleted ssid) = number_bytes 8 ssid.0
fields_text (Purged ssids) = ssids_text ssids
fields_text (CopyBegun ssid copy) = number_bytes 8 ssid.0 ++ number_bytes 4 copy.0
fields_text (CopyDone ssid copy sections removed) =
    number_bytes 8 ssid.0 ++ number_bytes 4 copy.0 ++ sections_text sections
    ++ number_bytes 4 removed.0
fields_text (IndexPart ssid part index) =
    number_bytes 8 ssid.0 ++ number_bytes 4 part ++ index_text index
fields_text (FinishedParts ssid files bytes digest sections) =
    stream_text ssid files bytes digest sections

-- ---- how they are read

unfoldable pub defined_at : List ℕ → Part Change
defined_at bytes = do
  resources ← resources_at bytes
  Ok (Defined resources.0, resources.1)

unfoldable pub dropped_at : List ℕ → Part Change
dropped_at bytes = do
  kind ← code_at resource_kinds bytes
  name ← name_at 64 kind.1
  Ok (Dropped kind.0 name.0, name.1)

unfoldable pub loaded_at : List ℕ → Part Change
loaded_at bytes = do
  slot ← byte_at bytes
  cart ← number_at 4 slot.1
  Ok (Loaded slot.0 (record { 0 = cart.0 }), cart.1)

unfoldable pub ejected_at : List ℕ → Part Change
ejected_at bytes = do
  slot ← byte_at bytes
  Ok (Ejected slot.0, slot.1)

unfoldable pub labelled_at : List ℕ → Part Change
labelled_at bytes = do
  volid ← number_above_at 8 0 bytes
  cart ← number_at 4 volid.1
  pool ← name_at 64 cart.1
  capacity ← number_within_at 4 67 1000000 pool.1
  was ← number_at 8 capacity.1
  Ok (
    Labelled (record { 0 = volid.0 }) (record { 0 = cart.0 }) pool.0 capacity.0
        (record { 0 = was.0 }),
    was.1,
  )

unfoldable pub begun_at : List ℕ → Part Change
begun_at bytes = do
  head ← head_at bytes
  Ok (Begun head.0, head.1)

unfoldable pub finished_at : List ℕ → Part Change
finished_at bytes = do
  ssid ← number_at 8 bytes
  files ← number_at 4 ssid.1
  size ← number_at 8 files.1
  digest ← bytes_at 32 size.1
  sections ← sections_at digest.1
  index ← index_at 0 max_count sections.1
  Ok (Finished (record { 0 = ssid.0 }) files.0 size.0 digest.0 sections.0 index.0, index.1)

unfoldable pub aborted_at : List ℕ → Part Change
aborted_at bytes = do
  ssid ← number_at 8 bytes
  Ok (Aborted (record { 0 = ssid.0 }), ssid.1)

unfoldable pub amended_at : List ℕ → Part Change
amended_at bytes = do
  ssid ← number_at 8 bytes
  browse ← number_at 8 ssid.1
  retain ← number_at 8 browse.1
  hold ← code_at flags retain.1
  Ok (
    Amended (record { 0 = ssid.0 }) (record { 0 = browse.0 }) (record { 0 = retain.0 }) hold.0,
    hold.1,
  )

unfoldable pub deleted_at : List ℕ → Part Change
deleted_at bytes = do
  ssid ← number_at 8 bytes
  Ok (Deleted (record { 0 = ssid.0 }), ssid.1)

unfoldable pub purged_at : List ℕ → Part Change
purged_at bytes = do
  ssids ← ssids_at bytes
  Ok (Purged ssids.0, ssids.1)

unfoldable pub copy_begun_at : List ℕ → Part Change
copy_begun_at bytes = do
  ssid ← number_at 8 bytes
  copy ← number_at 4 ssid.1
  Ok (CopyBegun (record { 0 = ssid.0 }) (record { 0 = copy.0 }), copy.1)

unfoldable pub copy_done_at : List ℕ → Part Change
copy_done_at bytes = do
  ssid ← number_at 8 bytes
  copy ← number_at 4 ssid.1
  sections ← sections_at copy.1
  removed ← number_at 4 sections.1
  Ok (
    CopyDone (record { 0 = ssid.0 }) (record { 0 = copy.0 }) sections.0
        (record { 0 = removed.0 }),
    removed.1,
  )

unfoldable pub index_part_at : List ℕ → Part Change
index_part_at bytes = do
  ssid ← number_at 8 bytes
  part ← number_at 4 ssid.1
  index ← index_at 1 10000 part.1
  Ok (IndexPart (record { 0 = ssid.0 }) part.0 index.0, index.1)

unfoldable pub finished_parts_at : List ℕ → Part Change
finished_parts_at bytes = do
  ssid ← number_at 8 bytes
  files ← number_within_at 4 10001 max_count ssid.1
  size ← number_at 8 files.1
  digest ← bytes_at 32 size.1
  sections ← sections_at digest.1
  Ok (FinishedParts (record { 0 = ssid.0 }) files.0 size.0 digest.0 sections.0, sections.1)

-- ---- changes

abbrev pub change_readers : Readers Change
change_readers =
    (1, defined_at) ∷ (2, dropped_at) ∷ (3, loaded_at) ∷ (4, ejected_at) ∷ (5, labelled_at)
    ∷ (6, begun_at) ∷ (7, finished_at) ∷ (8, aborted_at) ∷ (9, amended_at) ∷ (10, deleted_at)
    ∷ (11, purged_at) ∷ (12, copy_begun_at) ∷ (13, copy_done_at) ∷ (14, index_part_at)
    ∷ (15, finished_parts_at) ∷ []

-- a change, without its moment
abbrev pub change_alone_at : List ℕ → Part Change
change_alone_at bytes = by_kind_at change_readers bytes

abbrev pub change_alone_text : Change → List ℕ
change_alone_text change = byte_text (change_byte change) ++ fields_text change

-- a change at a moment
pub record Stamped : Type 0 where
  pub moment : ℕ
  pub change : Change

unfoldable pub change_at : List ℕ → Part Stamped
change_at bytes = do
  moment ← moment_at bytes
  change ← change_alone_at moment.1
  Ok (record { moment = moment.0; change = change.0 }, change.1)

abbrev pub change_text : ℕ → Change → List ℕ
change_text moment change = number_bytes 8 moment ++ change_alone_text change

-- the numbers of a stream are in the ranges of their types, and its digest has 32 bytes
pub record FitsStream (ssid : Ssid) (files bytes : ℕ) (digest : List ℕ) (sections : List Section)
    : Type 0 where
  pub of_ssid : ssid.0 < 2 ^ 64
  pub of_files : files < 2 ^ 32
  pub of_bytes : bytes < 2 ^ 64
  pub of_digest : length digest ≡ 32
  pub of_sections : AllByRecursion FitsSection sections

-- the numbers of a change are in the ranges of their types
abbrev pub FitsChange : Change → Type 0
FitsChange (Defined resources) = AllByRecursion FitsResource resources
FitsChange (Dropped kind name) = Unit {0}
FitsChange (Loaded slot cart) = (slot < 2 ^ 8) × (cart.0 < 2 ^ 32)
FitsChange (Ejected slot) = slot < 2 ^ 8
FitsChange (Labelled volid cart pool capacity was) =
    (volid.0 < 2 ^ 64) × (cart.0 < 2 ^ 32) × (was.0 < 2 ^ 64)
FitsChange (Begun head) = Unit {0}
FitsChange (Finished ssid files bytes digest sections index) =
    FitsStream ssid files bytes digest sections × AllByRecursion FitsEntry index
FitsChange (Aborted ssid) = ssid.0 < 2 ^ 64
FitsChange (Amended ssid browse retain hold) =
    (ssid.0 < 2 ^ 64) × (browse.0 < 2 ^ 64) × (retain.0 < 2 ^ 64)
FitsChange (Deleted ssid) = ssid.0 < 2 ^ 64
FitsChange (Purged ssids) = AllByRecursion (λ ssid. ssid.0 < 2 ^ 64) ssids
FitsChange (CopyBegun ssid copy) = (ssid.0 < 2 ^ 64) × (copy.0 < 2 ^ 32)
FitsChange (CopyDone ssid copy sections removed) =
    (ssid.0 < 2 ^ 64) × (copy.0 < 2 ^ 32) × AllByRecursion FitsSection sections
    × (removed.0 < 2 ^ 32)
FitsChange (IndexPart ssid part index) =
    (ssid.0 < 2 ^ 64) × (part < 2 ^ 32) × AllByRecursion FitsEntry index
FitsChange (FinishedParts ssid files bytes digest sections) =
    FitsStream ssid files bytes digest sections
