-- What records need to be written.
use Rattle.std.specs.Prelude.{ℕ, ◌+◌, ◌≤◌, ◌<◌, ◌^◌, Bool, List, length}
use Rattle.std.specs.List.{AllByRecursion, flat_map}
use Rattle.client_index.specs.Sets.{entries_or_none}
use Rattle.client_index.specs.declared.index.SetIndex.{SetIndex}
use Rattle.media_db.specs.Streams.{head_of}
use Rattle.media_db.specs.declared.copies.SetCopy.{SetCopy}
use Rattle.media_db.specs.declared.records.Record.{Record}
use Rattle.save_stream.specs.Spelling.{IsHead}
use Rattle.catalog_change.specs.Changes.{AreEntries}
use Rattle.catalog_spelling.specs.Fields.{number_bytes}
use Rattle.catalog_spelling.specs.Lists.{list_text}
use Rattle.catalog_spelling.specs.Records.{listed_text}
use Rattle.catalog_change.specs.declared.resource.Resource.TheVariants as resources
use Rattle.catalog_spelling.specs.Resources.{resource_text}
use Rattle.catalog_spelling.specs.declared.snapshot_fields.ResourceLists.{ResourceLists}
use Rattle.catalog_spelling.specs.declared.snapshot_fields.ListedRecord.{ListedRecord}

-- a record with the index that its set has
abbrev pub listed_by : List SetIndex → Record → ListedRecord
listed_by sets row = record { row = row; index = entries_or_none sets row.ssid }

-- a copy whose sections can be counted
abbrev pub HasSections : SetCopy → Type 0
HasSections copy = length copy.sections < 2 ^ 32

pub record CanWriteRow (row : Record) : Type 0 where
  pub head : IsHead (head_of row)
  pub copies : AllByRecursion HasSections row.copies
  pub count : length row.copies ≤ 255

abbrev pub CanWriteIndex : List SetIndex → Record → Type 0
CanWriteIndex sets row = AreEntries (entries_or_none sets row.ssid)

-- records with the indexes that their sets have
abbrev pub rows_by : List SetIndex → Bool → List Record → List ℕ
rows_by sets indexed rows =
    list_text (number_bytes 4) (λ row. listed_text indexed (listed_by sets row)) rows

-- how many bytes policies, pools and clients have
abbrev pub first_size : ResourceLists → ℕ
first_size lists =
    length (flat_map (λ policy. resource_text (resources.Policy policy)) lists.policies)
    + length (flat_map (λ pool. resource_text (resources.Pool pool)) lists.pools)
    + length (flat_map (λ client. resource_text (resources.Client client)) lists.clients)
