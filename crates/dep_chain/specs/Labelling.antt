-- Whether a volume may be labelled anew.
use Rattle.std.specs.Prelude.{◌≡◌, ℕ, ◌≤◌, ◌⊎◌, List, Option, Result}
use Rattle.std.specs.Prelude.{Ok, Err, Some, None}
use Rattle.std.specs.List.{Any, Contains}
use Rattle.room_base.specs.declared.numbers.Ssid.{Ssid}
use Rattle.media_db.specs.declared.copies.CopyState.TheVariants.{Done}
use Rattle.media_db.specs.declared.copies.SetCopy.{SetCopy}
use Rattle.media_db.specs.declared.records.Record.{Record}
use Rattle.media_db.specs.Rows.{find_record}
use Rattle.dep_chain.specs.declared.open_set.OpenSet.{OpenSet}
use Rattle.dep_chain.specs.Depends.{StandsOn}
use Rattle.dep_chain.specs.Need.{Needed}

-- a copy has a section on the volume
abbrev pub LiesOn : ℕ → SetCopy → Type 0
LiesOn volid copy = Any (λ section. section.volid.0 ≡ volid) copy.sections

-- a done copy with a section on the volume, and one without
abbrev pub IsDoneOn : ℕ → SetCopy → Type 0
IsDoneOn volid copy = (copy.state ≡ Done) × LiesOn volid copy

abbrev pub IsDoneOff : ℕ → SetCopy → Type 0
IsDoneOff volid copy = (copy.state ≡ Done) × (¬ LiesOn volid copy)

-- a session of the set has a section on the volume
abbrev pub IsWrittenOn : List OpenSet → ℕ → ℕ → Type 0
IsWrittenOn sessions volid ssid = Any (λ session. (session.ssid.0 ≡ ssid)
    × Any (λ on. on.0 ≡ volid) session.volids) sessions

-- the set has a section on the volume, of a done copy or of its open session
abbrev pub HasSectionOn : List Record → List OpenSet → ℕ → ℕ → Type 0
HasSectionOn rows sessions volid ssid =
    ((row : Record) × (find_record ssid rows ≡ Some row) × Any (IsDoneOn volid) row.copies)
    ⊎ IsWrittenOn sessions volid ssid

-- the same of a record
abbrev pub RowLiesOn : List OpenSet → ℕ → Record → Type 0
RowLiesOn sessions volid row =
    Any (IsDoneOn volid) row.copies ⊎ IsWrittenOn sessions volid row.ssid.0

-- the set has another done copy, without a section on the volume
abbrev pub HasCopyOff : List Record → ℕ → ℕ → Type 0
HasCopyOff rows volid ssid =
    (row : Record) × (find_record ssid rows ≡ Some row) × Any (IsDoneOff volid) row.copies

-- the set is needed, and has a section on the volume and no copy elsewhere
pub record Forbids (rows : List Record) (sessions : List OpenSet) (volid moment ssid : ℕ)
    : Type 0 where
  pub needed : Needed rows sessions moment ssid
  pub on : HasSectionOn rows sessions volid ssid
  pub none_off : ¬ HasCopyOff rows volid ssid

-- there is a least set so far, and it is at most this one
abbrev pub IsUpTo : Option Ssid → ℕ → Type 0
IsUpTo None ssid = ⊥
IsUpTo (Some least) ssid = least.0 ≤ ssid

-- Where the set of a record has a section on the volume it has a copy elsewhere; or the least set
-- so far is at most it.
abbrev pub IsSettled : List OpenSet → ℕ → Option Ssid → Record → Type 0
IsSettled sessions volid least row =
    (RowLiesOn sessions volid row → Any (IsDoneOff volid) row.copies) ⊎ IsUpTo least row.ssid.0

-- so it is of each set that this one stands on
abbrev pub AreSettled : List Record → List OpenSet → ℕ → ℕ → Option Ssid → Type 0
AreSettled rows sessions volid ssid least = (row : Record) → Contains rows row
    → StandsOn rows ssid row.ssid.0 → IsSettled sessions volid least row

-- a set that this one stands on lies on the volume alone
pub record LiesUnder (rows : List Record) (sessions : List OpenSet) (volid ssid : ℕ)
    (found : Ssid) : Type 0 where
  pub row : Record
  pub listed : Contains rows row
  pub is : row.ssid ≡ found
  pub under : StandsOn rows ssid row.ssid.0
  pub on : RowLiesOn sessions volid row
  pub none_off : ¬ Any (IsDoneOff volid) row.copies

-- Each needed set that has a section on the volume has a copy elsewhere; or this is the least one
-- that hasn't.
abbrev pub IsLabelAnswer : List Record → List OpenSet → ℕ → ℕ → Result (Unit {0}) Ssid → Type 0
IsLabelAnswer rows sessions volid moment (Ok done) = (ssid : ℕ)
    → Needed rows sessions moment ssid → HasSectionOn rows sessions volid ssid
    → HasCopyOff rows volid ssid
IsLabelAnswer rows sessions volid moment (Err least) =
    Forbids rows sessions volid moment least.0
    × ((ssid : ℕ) → Forbids rows sessions volid moment ssid → least.0 ≤ ssid)
