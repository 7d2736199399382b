-- Records of save sets as bytes, each with its index where indexes are written.
use Rattle.std.specs.Prelude.{ℕ, Bool, true, false, nat_lt, List, [], ◌∷◌, ◌++◌, length, Ok}
use Rattle.media_db.specs.Streams.{head_of}
use Rattle.media_db.specs.declared.records.Record.{Record}
use Rattle.media_db.specs.declared.records.RecordState.{RecordState}
use Rattle.media_db.specs.declared.records.RecordState.TheVariants as states
use Rattle.save_stream.specs.Spelling.{head_text}
use Rattle.save_stream.specs.declared.entry.IndexEntry.{IndexEntry}
use Rattle.save_stream.specs.declared.head.SetHead.{SetHead}
use Rattle.catalog_change.specs.Catalogues.{max_number}
use Rattle.catalog_spelling.specs.Reading.{Part, ◌>>=◌, checked}
use Rattle.catalog_spelling.specs.Fields.{
  byte_text,
  number_bytes,
  number_at,
  number_within_at,
  bytes_at,
  code_at,
  flags,
  flag_byte,
}
use Rattle.catalog_spelling.specs.Lists.{list_at, list_text}
use Rattle.catalog_spelling.specs.Entries.{index_at, index_text}
use Rattle.catalog_spelling.specs.Changes.{max_count}
use Rattle.catalog_spelling.specs.declared.snapshot_fields.ListedRecord.{ListedRecord}
use Rattle.catalog_spelling.specs.Media.{is_next_drawn, copies_at, copies_text}
use Rattle.catalog_spelling.specs.SnapshotHeads.{head_if_at}

-- ---- records

abbrev pub record_kinds : List (ℕ × RecordState)
record_kinds = (0, states.Begun) ∷ (1, states.Complete) ∷ (2, states.Aborted) ∷ []

abbrev pub state_byte : RecordState → ℕ
state_byte states.Begun = 0
state_byte states.Complete = 1
state_byte states.Aborted = 2

-- a complete set is longer than the head of its stream
abbrev pub is_longer : RecordState → SetHead → ℕ → Bool
is_longer states.Begun head size = true
is_longer states.Complete head size = nat_lt (length (head_text head)) size
is_longer states.Aborted head size = true

-- what a record has beside its head and its copies
abbrev pub state_text : Record → List ℕ
state_text row =
    byte_text (flag_byte row.hold) ++ byte_text (state_byte row.state)
    ++ byte_text (flag_byte row.purged) ++ number_bytes 4 row.files ++ number_bytes 8 row.bytes
    ++ row.digest ++ number_bytes 4 row.next_copy ++ number_bytes 8 row.changed

-- a record behind its head
abbrev pub fields_text : Record → List ℕ
fields_text row = state_text row ++ copies_text row.copies

abbrev pub record_text : Record → List ℕ
record_text row = head_text (head_of row) ++ fields_text row

-- the fields behind a head
unfoldable pub fields_at : SetHead → List ℕ → Part Record
fields_at head bytes = do
  hold ← code_at flags bytes
  state ← code_at record_kinds hold.1
  purged ← code_at flags state.1
  files ← number_at 4 purged.1
  size ← checked (is_longer state.0 head) files.1 (number_at 8 files.1)
  digest ← bytes_at 32 size.1
  next_copy ← number_at 4 digest.1
  changed ← number_at 8 next_copy.1
  copies ← copies_at state.0 next_copy.0 changed.1
  Ok (
    record {
      ssid = head.ssid;
      client = head.client;
      set = head.set;
      group = head.group;
      pool = head.pool;
      level = head.level;
      base = head.base;
      saved = head.saved;
      browse = head.browse;
      retain = head.retain;
      hold = hold.0;
      state = state.0;
      purged = purged.0;
      files = files.0;
      bytes = size.0;
      digest = digest.0;
      copies = copies.0;
      next_copy = next_copy.0;
      changed = changed.0;
    },
    copies.1,
  )

-- ---- records with their indexes

abbrev pub listed_ssid : ListedRecord → ℕ
listed_ssid listed = listed.row.ssid.0

-- the index stands where indexes are written
abbrev pub index_if_text : Bool → List IndexEntry → List ℕ
index_if_text true index = index_text index
index_if_text false index = []

unfoldable pub index_if_at : Bool → List ℕ → Part (List IndexEntry)
index_if_at true bytes = index_at 0 max_count bytes
index_if_at false bytes = Ok ([], bytes)

abbrev pub listed_text : Bool → ListedRecord → List ℕ
listed_text indexed listed = record_text listed.row ++ index_if_text indexed listed.index

unfoldable pub listed_at : ℕ → Bool → List ListedRecord → List ℕ → Part ListedRecord
listed_at next indexed before bytes = do
  head ← head_if_at (is_next_drawn max_number next listed_ssid before) bytes
  row ← fields_at head.0 head.1
  index ← index_if_at indexed row.1
  Ok (record { row = row.0; index = index.0 }, index.1)

abbrev pub records_text : Bool → List ListedRecord → List ℕ
records_text indexed records = list_text (number_bytes 4) (listed_text indexed) records

abbrev pub records_at : ℕ → Bool → List ℕ → Part (List ListedRecord)
records_at next indexed bytes =
    list_at (number_within_at 4 0 max_count) (listed_at next indexed) bytes
