-- Snapshots: all that a catalogue holds, as bytes.
use Rattle.std.specs.Prelude.{ℕ, Bool, true, false, ◌==◌, List, [], ◌++◌, Ok}
use Rattle.client_index.specs.Sets.{entries_or_none}
use Rattle.media_db.specs.declared.records.Record.{Record}
use Rattle.save_stream.specs.declared.entry.IndexEntry.{IndexEntry}
use Rattle.catalog_change.specs.Catalogues.{Catalogue, max_number}
use Rattle.catalog_spelling.specs.Reading.{Part, ◌>>=◌, checked}
use Rattle.catalog_spelling.specs.Fields.{byte_text, byte_at, number_bytes, number_within_at, moment_at}
use Rattle.catalog_spelling.specs.Lists.{list_text}
use Rattle.catalog_spelling.specs.declared.snapshot_fields.ResourceLists.{ResourceLists}
use Rattle.catalog_spelling.specs.declared.snapshot_fields.ListedRecord.{ListedRecord}
use Rattle.catalog_spelling.specs.declared.snapshot_fields.SnapshotFields.{SnapshotFields}
use Rattle.catalog_spelling.specs.declared.parts.Snapshot.{Snapshot}
use Rattle.catalog_spelling.specs.declared.parts.SnapshotParts.{SnapshotParts}
use Rattle.catalog_spelling.specs.SnapshotResources.{lists_at, lists_text, has_lasting}
use Rattle.catalog_spelling.specs.Media.{slots_at, slots_text, volumes_at, volumes_text}
use Rattle.catalog_spelling.specs.Records.{records_at, listed_text}

-- ---- what snapshots are of

-- the catalogue of parts that are lent
abbrev pub catalogue_lent : SnapshotParts → Catalogue
catalogue_lent parts = record {
  number = parts.number;
  last_moment = parts.last_moment.0;
  next_ssid = parts.next_ssid.0;
  next_volid = parts.next_volid.0;
  policies = parts.policies.now;
  pools = parts.pools.now;
  clients = parts.clients.now;
  schedules = parts.schedules.now;
  groups = parts.groups.now;
  slots = parts.slots.now;
  volumes = parts.db.now.volumes;
  records = parts.db.now.records;
  index = λ ssid. entries_or_none parts.index.now.sets (record { 0 = ssid });
}

-- the catalogue that was read
abbrev pub catalogue_read : Snapshot → Catalogue
catalogue_read snapshot = record {
  number = snapshot.number;
  last_moment = snapshot.last_moment.0;
  next_ssid = snapshot.next_ssid.0;
  next_volid = snapshot.next_volid.0;
  policies = snapshot.policies.items;
  pools = snapshot.pools.items;
  clients = snapshot.clients.items;
  schedules = snapshot.schedules.items;
  groups = snapshot.groups.items;
  slots = snapshot.slots.items;
  volumes = snapshot.db.volumes;
  records = snapshot.db.records;
  index = λ ssid. entries_or_none snapshot.index.sets (record { 0 = ssid });
}

-- ---- how they are spelled

abbrev pub lists_of : Catalogue → ResourceLists
lists_of catalogue = record {
  policies = catalogue.policies;
  pools = catalogue.pools;
  clients = catalogue.clients;
  schedules = catalogue.schedules;
  groups = catalogue.groups;
}

-- a record with the index of its set
abbrev pub listed_in : (ℕ → List IndexEntry) → Record → ListedRecord
listed_in index row = record { row = row; index = index row.ssid.0 }

-- `B`, form 1, and the numbers
abbrev pub front_text : Catalogue → List ℕ
front_text catalogue =
    byte_text 0x42 ++ byte_text 1 ++ number_bytes 8 catalogue.number
    ++ number_bytes 8 catalogue.last_moment ++ number_bytes 8 catalogue.next_ssid
    ++ number_bytes 8 catalogue.next_volid

abbrev pub rows_text : Bool → (ℕ → List IndexEntry) → List Record → List ℕ
rows_text indexed index rows =
    list_text (number_bytes 4) (λ row. listed_text indexed (listed_in index row)) rows

-- an index as a text has it, which has it where indexes are written
abbrev pub kept_index : Bool → List IndexEntry → List IndexEntry
kept_index true index = index
kept_index false index = []

-- a catalogue as its text has it, with its indexes or without
abbrev pub kept_in : Bool → Catalogue → Catalogue
kept_in indexed catalogue =
    record catalogue { index = λ ssid. kept_index indexed (catalogue.index ssid) }

abbrev pub snapshot_text : Bool → Catalogue → List ℕ
snapshot_text indexed catalogue =
    front_text catalogue ++ lists_text (lists_of catalogue) ++ slots_text catalogue.slots
    ++ volumes_text catalogue.volumes ++ rows_text indexed catalogue.index catalogue.records

-- ---- how they are read

unfoldable pub snapshot_at : Bool → List ℕ → Part SnapshotFields
snapshot_at indexed bytes = do
  kind ← checked (λ byte. byte == 0x42) bytes (byte_at bytes)
  form ← checked (λ byte. byte == 1) kind.1 (byte_at kind.1)
  number ← number_within_at 8 0 max_number form.1
  last_moment ← moment_at number.1
  next_ssid ← number_within_at 8 1 max_number last_moment.1
  next_volid ← number_within_at 8 1 max_number next_ssid.1
  lists ← lists_at next_volid.1
  slots ← slots_at (has_lasting lists.0) lists.1
  volumes ← volumes_at next_volid.0 slots.1
  records ← records_at next_ssid.0 indexed volumes.1
  Ok (
    record {
      number = number.0;
      last_moment = record { 0 = last_moment.0 };
      next_ssid = record { 0 = next_ssid.0 };
      next_volid = record { 0 = next_volid.0 };
      lists = lists.0;
      slots = slots.0;
      volumes = volumes.0;
      records = records.0;
    },
    records.1,
  )
