-- The catalogues whose numbers are in the ranges of their bytes: those that snapshots can spell.
use Rattle.std.specs.Prelude.{ℕ, ◌<◌, ◌^◌, Bool, List}
use Rattle.std.specs.List.{AllByRecursion}
use Rattle.client_index.specs.Sets.{entries_or_none}
use Rattle.client_index.specs.declared.index.SetIndex.{SetIndex}
use Rattle.media_db.specs.declared.copies.SetCopy.{SetCopy}
use Rattle.media_db.specs.declared.records.Record.{Record}
use Rattle.media_db.specs.declared.volumes.VolumeRec.{VolumeRec}
use Rattle.room_rules.specs.declared.pool.Pool.{Pool}
use Rattle.room_rules.specs.declared.schedule.Schedule.{Schedule}
use Rattle.catalog_change.specs.Catalogues.{Catalogue}
use Rattle.catalog_change.specs.declared.resource.Resource.TheVariants as resources
use Rattle.catalog_spelling.specs.Entries.{FitsEntry}
use Rattle.catalog_spelling.specs.Resources.{FitsResource}
use Rattle.catalog_spelling.specs.Sections.{FitsSection}
use Rattle.catalog_spelling.specs.Snapshots.{kept_index}

pub record FitsVolume (volume : VolumeRec) : Type 0 where
  pub volid : volume.volid.0 < 2 ^ 64
  pub was : volume.was.0 < 2 ^ 64

pub record FitsCopy (copy : SetCopy) : Type 0 where
  pub number : copy.no.0 < 2 ^ 32
  pub sections : AllByRecursion FitsSection copy.sections

-- the numbers of a record, but for those of its head
pub record FitsNumbers (row : Record) : Type 0 where
  pub files : row.files < 2 ^ 32
  pub bytes : row.bytes < 2 ^ 64
  pub next_copy : row.next_copy < 2 ^ 32
  pub changed : row.changed < 2 ^ 64

pub record FitsRecord (row : Record) : Type 0 where
  pub numbers : FitsNumbers row
  pub copies : AllByRecursion FitsCopy row.copies

-- a record, with its index where indexes are written
abbrev pub FitsRow : List SetIndex → Bool → Record → Type 0
FitsRow sets indexed row =
    FitsRecord row
    × AllByRecursion FitsEntry (kept_index indexed (entries_or_none sets row.ssid))

abbrev pub FitsPool : Pool → Type 0
FitsPool pool = FitsResource (resources.Pool pool)

abbrev pub FitsSchedule : Schedule → Type 0
FitsSchedule schedule = FitsResource (resources.Schedule schedule)

-- what is allowed of a catalogue bounds its other numbers
pub record FitsCatalogue (catalogue : Catalogue) : Type 0 where
  pub pools : AllByRecursion FitsPool catalogue.pools
  pub schedules : AllByRecursion FitsSchedule catalogue.schedules
  pub volumes : AllByRecursion FitsVolume catalogue.volumes
  pub records : AllByRecursion FitsRecord catalogue.records
  pub indexes : (ssid : ℕ) → AllByRecursion FitsEntry (catalogue.index ssid)
