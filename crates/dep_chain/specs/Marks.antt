-- Marks of records: which sets can't be purged.
use Rattle.std.specs.Prelude.{◌≡◌, ℕ, ◌<◌, ◌⊎◌, ◌↔◌, Bool, true, false, List, length, Some}
use Rattle.std.specs.Prelude.{slice_index_or}
use Rattle.std.specs.List.{Contains}
use Rattle.std.specs.Ordering.{nat_cmp}
use Rattle.room_base.specs.declared.numbers.Ssid.{Ssid}
use Rattle.room_base.specs.Ordered.{Ascends}
use Rattle.media_db.specs.declared.records.Record.{Record}
use Rattle.media_db.specs.declared.records.RecordState.TheVariants.{Complete}
use Rattle.media_db.specs.Rows.{find_record}
use Rattle.dep_chain.specs.declared.open_set.OpenSet.{OpenSet}
use Rattle.dep_chain.specs.Depends.{StandsOn}
use Rattle.dep_chain.specs.Need.{IsOpen}
use Rattle.dep_chain.specs.Purging.{StaysBrowsed, ssid_number}

-- the record at a place, and the mark there
pub record IsAt (rows : List Record) (place : ℕ) (row : Record) : Type 0 where
  pub within : place < length rows
  pub is : slice_index_or rows place row ≡ row

abbrev pub IsMarked : List Bool → ℕ → Type 0
IsMarked marks place = slice_index_or marks place false ≡ true

-- the set of a record can't be purged, whatever depends on it
abbrev pub Stays : List OpenSet → ℕ → Record → Type 0
Stays sessions moment row = StaysBrowsed moment row ⊎ IsOpen sessions row.ssid.0

-- a set, or one that depends on it, stays
pub record StaysUnder (rows : List Record) (sessions : List OpenSet) (moment ssid : ℕ)
    : Type 0 where
  pub user : ℕ
  pub on : StandsOn rows user ssid
  pub stays : ((row : Record) × (find_record user rows ≡ Some row) × StaysBrowsed moment row)
      ⊎ IsOpen sessions user

-- of the records before a place, those that stay by themselves are marked
abbrev pub AreOwnMarks : List Record → List OpenSet → ℕ → ℕ → List Bool → Type 0
AreOwnMarks rows sessions moment end marks = (place : ℕ) (row : Record) → place < end
    → IsAt rows place row → IsMarked marks place ↔ Stays sessions moment row

-- each set that stays, or under one that stays, is marked, and no other
abbrev pub AreMarks : List Record → List OpenSet → ℕ → List Bool → Type 0
AreMarks rows sessions moment marks = (place : ℕ) (row : Record)
    → IsAt rows place row → IsMarked marks place ↔ StaysUnder rows sessions moment row.ssid.0

-- one mark more: that of a set's record
pub record MarksBase (rows : List Record) (base : ℕ) (old new : List Bool) : Type 0 where
  pub grown : (place : ℕ) → IsMarked old place → IsMarked new place
  pub only : (place : ℕ) (row : Record) → IsAt rows place row → IsMarked new place
      → IsMarked old place ⊎ (row.ssid.0 ≡ base)
  pub marked : (place : ℕ) (row : Record) → IsAt rows place row → row.ssid.0 ≡ base
      → IsMarked new place

-- a complete set whose record stands before a place and isn't marked
pub record IsUnmarked (rows : List Record) (marks : List Bool) (end : ℕ) (ssid : Ssid)
    : Type 0 where
  pub place : ℕ
  pub row : Record
  pub before : place < end
  pub at : IsAt rows place row
  pub is : row.ssid ≡ ssid
  pub complete : row.state ≡ Complete
  pub free : slice_index_or marks place false ≡ false

pub record AreUnmarked (rows : List Record) (marks : List Bool) (end : ℕ) (ssids : List Ssid)
    : Type 0 where
  pub ascending : Ascends nat_cmp ssid_number ssids
  pub only : (ssid : Ssid) → Contains ssids ssid → IsUnmarked rows marks end ssid
  pub all : (ssid : Ssid) → IsUnmarked rows marks end ssid → Contains ssids ssid
