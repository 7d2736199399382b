-- Which save sets can be purged.
use Rattle.std.specs.Prelude.{◌≡◌, ℕ, ◌<◌, ◌≤◌, ◌⊎◌, ◌↔◌, true, false, List, Some}
use Rattle.std.specs.List.{Contains}
use Rattle.std.specs.Ordering.{nat_cmp}
use Rattle.room_base.specs.declared.numbers.Ssid.{Ssid}
use Rattle.room_base.specs.Ordered.{Ascends}
use Rattle.media_db.specs.declared.records.Record.{Record}
use Rattle.media_db.specs.declared.records.RecordState.TheVariants.{Complete}
use Rattle.media_db.specs.Rows.{find_record}
use Rattle.dep_chain.specs.declared.open_set.OpenSet.{OpenSet}
use Rattle.dep_chain.specs.Depends.{StandsOn}
use Rattle.dep_chain.specs.Need.{IsOpen}

-- its browse time has passed, and it isn't held
abbrev pub IsBrowsed : ℕ → Record → Type 0
IsBrowsed moment row = (row.browse.0 ≤ moment) × (row.hold ≡ false)

-- the contrary, of a complete record
abbrev pub StaysBrowsed : ℕ → Record → Type 0
StaysBrowsed moment row =
    (row.state ≡ Complete) × ((row.hold ≡ true) ⊎ (moment < row.browse.0))

abbrev pub HasComplete : List Record → ℕ → Type 0
HasComplete rows ssid =
    (row : Record) × (find_record ssid rows ≡ Some row) × (row.state ≡ Complete)

-- The set is complete. It and each complete set that depends on it has passed its browse time and
-- isn't held; and of it and of the sets that depend on it, complete or not, none has an open
-- session.
pub record IsPurgeable (rows : List Record) (sessions : List OpenSet) (moment ssid : ℕ)
    : Type 0 where
  pub row : Record
  pub found : find_record ssid rows ≡ Some row
  pub complete : row.state ≡ Complete
  pub browsed : (user : ℕ) (of_user : Record) → StandsOn rows user ssid
      → find_record user rows ≡ Some of_user → of_user.state ≡ Complete
      → IsBrowsed moment of_user
  pub closed : (user : ℕ) → StandsOn rows user ssid → ¬ IsOpen sessions user

abbrev pub ssid_number : Ssid → ℕ
ssid_number ssid = ssid.0

-- the list has each set that can be purged, and no other, ascending
pub record AreThePurgeable (rows : List Record) (sessions : List OpenSet) (moment : ℕ)
    (ssids : List Ssid) : Type 0 where
  pub ascending : Ascends nat_cmp ssid_number ssids
  pub each : (ssid : Ssid) → Contains ssids ssid ↔ IsPurgeable rows sessions moment ssid.0
