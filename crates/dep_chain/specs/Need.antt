-- Which save sets are needed, and by which ones.
use Rattle.std.specs.Prelude.{◌≡◌, ℕ, ◌<◌, ◌≤◌, ◌⊎◌, true, List, Option, Some, None}
use Rattle.std.specs.List.{Any, AllByRecursion}
use Rattle.room_base.specs.declared.numbers.Ssid.{Ssid}
use Rattle.media_db.specs.declared.records.Record.{Record}
use Rattle.media_db.specs.declared.records.RecordState.TheVariants.{Complete}
use Rattle.media_db.specs.Rows.{find_record}
use Rattle.dep_chain.specs.declared.open_set.OpenSet.{OpenSet}
use Rattle.dep_chain.specs.Depends.{Depends, StandsOn}

-- ---- open sessions

-- an open session has a record of its set and its base
pub record HasRecord (rows : List Record) (session : OpenSet) : Type 0 where
  pub row : Record
  pub found : find_record session.ssid.0 rows ≡ Some row
  pub base : row.base ≡ session.base

abbrev pub AreSessions : List Record → List OpenSet → Type 0
AreSessions rows sessions = AllByRecursion (HasRecord rows) sessions

-- the set has an open session
abbrev pub IsOpen : List OpenSet → ℕ → Type 0
IsOpen sessions ssid = Any (λ session. session.ssid.0 ≡ ssid) sessions

-- ---- need

-- a set is held, or its retention hasn't passed
abbrev pub IsUnexpired : ℕ → Record → Type 0
IsUnexpired moment row = (row.hold ≡ true) ⊎ (moment < row.retain.0)

abbrev pub IsKept : ℕ → Record → Type 0
IsKept moment row = (row.state ≡ Complete) × IsUnexpired moment row

-- the set of the ssid is complete and unexpired
abbrev pub KeepsItself : List Record → ℕ → ℕ → Type 0
KeepsItself rows moment ssid = (row : Record) × (find_record ssid rows ≡ Some row)
    × IsKept moment row

-- a set that needs itself and what it depends on
abbrev pub Needs : List Record → List OpenSet → ℕ → ℕ → Type 0
Needs rows sessions moment ssid = KeepsItself rows moment ssid ⊎ IsOpen sessions ssid

-- the same of a record
abbrev pub NeedsItself : List OpenSet → ℕ → Record → Type 0
NeedsItself sessions moment row = IsKept moment row ⊎ IsOpen sessions row.ssid.0

-- it, or a set that depends on it, is complete and unexpired, or has an open session
abbrev pub Needed : List Record → List OpenSet → ℕ → ℕ → Type 0
Needed rows sessions moment ssid =
    (user : ℕ) × StandsOn rows user ssid × Needs rows sessions moment user

-- ---- users

-- another set that depends on it and is complete and unexpired, or has an open session
abbrev pub Uses : List Record → List OpenSet → ℕ → ℕ → ℕ → Type 0
Uses rows sessions moment ssid user =
    Depends rows user ssid × Needs rows sessions moment user

-- the least such set, or None where there is none
abbrev pub IsLeastUser : List Record → List OpenSet → ℕ → ℕ → Option Ssid → Type 0
IsLeastUser rows sessions moment ssid None =
    (user : ℕ) → ¬ Uses rows sessions moment ssid user
IsLeastUser rows sessions moment ssid (Some least) =
    Uses rows sessions moment ssid least.0
    × ((user : ℕ) → Uses rows sessions moment ssid user → least.0 ≤ user)
