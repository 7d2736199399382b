-- Which save sets a later save can stand on.
use Rattle.std.specs.Prelude.{◌≡◌, ℕ, ◌<◌, ◌≤◌, false, List, Option, Some, None}
use Rattle.std.specs.List.{Any}
use Rattle.room_base.specs.declared.numbers.Ssid.{Ssid}
use Rattle.media_db.specs.declared.copies.CopyState.TheVariants.{Done}
use Rattle.media_db.specs.declared.records.RecordState.TheVariants.{Complete}
use Rattle.media_db.specs.declared.records.Record.{Record}
use Rattle.media_db.specs.Rows.{find_record}

-- one of the copies is done
abbrev pub HasDoneCopy : Record → Type 0
HasDoneCopy row = Any (λ copy. copy.state ≡ Done) row.copies

-- a record is complete, not purged, and has a done copy
pub record IsRestorable (row : Record) : Type 0 where
  pub complete : row.state ≡ Complete
  pub kept : row.purged ≡ false
  pub copied : HasDoneCopy row

-- a record is usable where it is ready and stands alone or on a usable one
pub data Usable (rows : List Record) : Record → Type 0 where
  alone : (row : Record) → IsRestorable row → row.base.0 ≡ 0 → Usable rows row
  based : (row base : Record) → IsRestorable row → find_record row.base.0 rows ≡ Some base
      → Usable rows base → Usable rows row

-- a usable record of this client and set whose level has a rank below the given one
pub record CanBeBase (rows : List Record) (client set : List ℕ) (below : ℕ)
    (row : Record) : Type 0 where
  pub usable : Usable rows row
  pub client_is : row.client ≡ client
  pub set_is : row.set ≡ set
  pub rank : row.level < below

-- the ssid is that of such a record
pub record IsBaseSsid (rows : List Record) (client set : List ℕ) (below : ℕ)
    (ssid : ℕ) : Type 0 where
  pub row : Record
  pub found : find_record ssid rows ≡ Some row
  pub is : CanBeBase rows client set below row

-- the greatest ssid of such a record, or None where there is none
abbrev pub IsLastBase : List Record → List ℕ → List ℕ → ℕ → Option Ssid → Type 0
IsLastBase rows client set below None = (ssid : ℕ) → ¬ (IsBaseSsid rows client set below ssid)
IsLastBase rows client set below (Some last) = IsBaseSsid rows client set below last.0
    × ((ssid : ℕ) → IsBaseSsid rows client set below ssid → ssid ≤ last.0)
