-- What is read of a snapshot can be put into a database, as it stands.
use Rattle.std.specs.Prelude.{List}
use Rattle.std.specs.List.{AllByRecursion}
use Rattle.std.specs.Ordering.{nat_cmp}
use Rattle.room_base.specs.Ordered.{Ascends}
use Rattle.save_stream.specs.Spelling.{PathsAscend}
use Rattle.client_index.specs.declared.index.SetIndex.{SetIndex}
use Rattle.media_db.specs.Rows.{AreVolumes, HasLowerBase}
use Rattle.catalog_spelling.specs.declared.snapshot_fields.SnapshotFields.{SnapshotFields}
use Rattle.catalog_spelling.specs.declared.snapshot_fields.ListedRecord.{ListedRecord}
use Rattle.catalog_spelling.specs.Records.{listed_ssid}

-- the index of a record, as the indexes of all sets have it
abbrev pub set_of : ListedRecord → SetIndex
set_of listed = record { ssid = listed.row.ssid; entries = listed.index }

-- records that can be put into a database, with their indexes
pub record AreListed (records : List ListedRecord) : Type 0 where
  pub order : Ascends nat_cmp listed_ssid records
  pub bases : AllByRecursion (λ listed. HasLowerBase listed.row) records
  pub paths : AllByRecursion (λ listed. PathsAscend listed.index) records

pub record AreStored (fields : SnapshotFields) : Type 0 where
  pub volumes : AreVolumes fields.volumes
  pub records : AreListed fields.records
