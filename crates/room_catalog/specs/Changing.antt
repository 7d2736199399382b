-- What a change makes of the lists of a catalogue, each update in its list.
use Rattle.std.specs.Prelude.{ℕ, ◌+◌, List, [], ◌∷◌, Option, Some, None, if◌then◌else◌, ◌≡◌, length}
use Rattle.std.specs.Ordering.{nat_cmp}
use Rattle.room_base.specs.Ordered.{put_by, remove_by}
use Rattle.room_base.specs.declared.numbers.Moment.{Moment}
use Rattle.room_base.specs.declared.numbers.Ssid.{Ssid}
use Rattle.save_stream.specs.declared.entry.IndexEntry.{IndexEntry}
use Rattle.media_db.specs.Edits.{
  aborted,
  amended,
  drop_copies_on,
  finished,
  has_copy_if_complete,
  purged_by,
  with_begun_copy,
  with_copy_removed,
  with_done_copy,
  without_copies_on,
}
use Rattle.media_db.specs.Rows.{
  put_row,
  put_volume,
  remove_row,
  remove_volume,
  update_row,
  volume_on,
}
use Rattle.media_db.specs.declared.records.Record.{Record}
use Rattle.media_db.specs.declared.volumes.VolumeRec.{VolumeRec}
use Rattle.client_index.specs.declared.index.SetIndex.{SetIndex}
use Rattle.client_index.specs.Sets.{forget, forget_each, put}
use Rattle.catalog_change.specs.declared.change.Change.{Change}
use Rattle.catalog_change.specs.declared.change.Change.TheVariants.{
  Defined,
  Dropped,
  Loaded,
  Ejected,
  Labelled,
  Begun,
  Finished,
  Aborted,
  Amended,
  Deleted,
  Purged,
  CopyBegun,
  CopyDone,
  IndexPart,
  FinishedParts,
}
use Rattle.catalog_change.specs.Catalogues.{slot_number}
use Rattle.room_catalog.specs.Applying.{begun_row, with_part}
use Rattle.room_catalog.specs.Held.{CatalogueLists, Parts, no_parts}
use Rattle.resource_lists.specs.Changing.{with_each, without_named}

-- ---- volumes

-- the indexes without that of a record that goes with its last done copy on a volume
abbrev pub forget_row_off : ℕ → Record → List SetIndex → List SetIndex
forget_row_off volid row sets =
    if has_copy_if_complete (without_copies_on volid row) then sets else forget sets row.ssid

-- the same of each of these records
abbrev pub forget_off : ℕ → List Record → List SetIndex → List SetIndex
forget_off volid [] sets = sets
forget_off volid (row ∷ rows) sets = forget_off volid rows (forget_row_off volid row sets)

-- the volumes without the one that has to go
abbrev pub volumes_off : Option VolumeRec → List VolumeRec → List VolumeRec
volumes_off None volumes = volumes
volumes_off (Some gone) volumes = remove_volume gone.volid.0 volumes

-- the records without the copies on it, and without those that need them
abbrev pub records_off : Option VolumeRec → List Record → List Record
records_off None records = records
records_off (Some gone) records = drop_copies_on gone.volid.0 records

-- the indexes without those of such records
abbrev pub sets_off : Option VolumeRec → List Record → List SetIndex → List SetIndex
sets_off None records sets = sets
sets_off (Some gone) records sets = forget_off gone.volid.0 records sets

abbrev pub with_volume : VolumeRec → CatalogueLists → CatalogueLists
with_volume volume lists =
    let gone = volume_on volume.cart.0 lists.volumes in
    record lists {
      next_volid = volume.volid.0 + 1;
      volumes = put_volume volume (volumes_off gone lists.volumes);
      records = records_off gone lists.records;
      sets = sets_off gone lists.records lists.sets;
    }

-- ---- records

abbrev pub purge_each : ℕ → List Ssid → List Record → List Record
purge_each number [] records = records
purge_each number (ssid ∷ ssids) records =
    purge_each number ssids (update_row ssid.0 (purged_by number) records)

abbrev pub with_row_edited : Ssid → (Record → Record) → CatalogueLists → CatalogueLists
with_row_edited ssid edit lists =
    record lists { records = update_row ssid.0 edit lists.records }

-- ---- changes

abbrev pub change_by_kind : ℕ → Change → CatalogueLists → CatalogueLists
change_by_kind number (Defined new) lists =
    record lists { resources = with_each new lists.resources }
change_by_kind number (Dropped kind name) lists =
    record lists { resources = without_named kind name lists.resources }
change_by_kind number (Loaded slot cart) lists = record lists {
  slots = put_by nat_cmp slot_number (record { slot = slot; cart = cart }) lists.slots;
}
change_by_kind number (Ejected slot) lists =
    record lists { slots = remove_by nat_cmp slot_number slot lists.slots }
change_by_kind number (Labelled volid cart pool capacity was) lists =
    with_volume
    (record { volid = volid; cart = cart; pool = pool; capacity = capacity; was = was }) lists
change_by_kind number (Begun head) lists = record lists {
  next_ssid = head.ssid.0 + 1;
  records = put_row (begun_row head) lists.records;
}
change_by_kind number (Finished ssid files bytes digest sections index) lists = record lists {
  records = update_row ssid.0 (finished files bytes digest sections) lists.records;
  sets = put lists.sets (record { ssid = ssid; entries = index });
}
change_by_kind number (Aborted ssid) lists = with_row_edited ssid aborted lists
change_by_kind number (Amended ssid browse retain hold) lists =
    with_row_edited ssid (amended browse retain hold number) lists
change_by_kind number (Deleted ssid) lists = record lists {
  records = remove_row ssid.0 lists.records;
  sets = forget lists.sets ssid;
}
change_by_kind number (Purged ssids) lists = record lists {
  records = purge_each number ssids lists.records;
  sets = forget_each ssids lists.sets;
}
change_by_kind number (CopyBegun ssid copy) lists =
    with_row_edited ssid (with_begun_copy copy) lists
change_by_kind number (CopyDone ssid copy sections removed) lists =
    with_row_edited ssid (with_copy_removed removed)
    (with_row_edited ssid (with_done_copy copy sections) lists)
-- parts are added, and closed, elsewhere
change_by_kind number (IndexPart ssid part index) lists = lists
change_by_kind number (FinishedParts ssid files bytes digest sections) lists = lists

-- the lists after a change of this number and moment
abbrev pub changed : ℕ → Moment → Change → CatalogueLists → CatalogueLists
changed number m change lists =
    change_by_kind number change (record lists { number = number; last_moment = m.0 })

-- a digest has 32 bytes, as its type says
abbrev pub HasWholeDigest : Change → Type 0
HasWholeDigest (Finished ssid files bytes digest sections index) = length digest ≡ 32
HasWholeDigest _ = Unit {0}

-- ---- with the parts of an index

-- the change with the index that the parts before it hold
abbrev pub with_index : Parts → Change → Change
with_index parts (FinishedParts ssid files bytes digest sections) =
    Finished ssid files bytes digest sections parts.entries
with_index parts change = change

abbrev pub without_parts : CatalogueLists → CatalogueLists
without_parts lists = record lists { parts = no_parts }

-- the lists after a change that isn't a part: no part waits then
abbrev pub catalogue_after : Moment → Change → CatalogueLists → CatalogueLists
catalogue_after m change lists =
    without_parts (changed (lists.number + 1) m (with_index lists.parts change) lists)

-- the lists with one part more that waits
abbrev pub with_part_waiting : Ssid → ℕ → List IndexEntry → CatalogueLists → CatalogueLists
with_part_waiting ssid part index lists =
    record lists { parts = with_part ssid part index lists.parts }

-- the lists after any change
abbrev pub lists_after : Moment → Change → CatalogueLists → CatalogueLists
lists_after m (IndexPart ssid part index) lists = with_part_waiting ssid part index lists
lists_after m change lists = catalogue_after m change lists
