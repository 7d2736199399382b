-- The chain of bases that a save set is restored from.
use Rattle.std.specs.Prelude.{◌≡◌, ◌≢◌, ℕ, ◌⊎◌, true, false, List, [], ◌∷◌, Some}
use Rattle.room_base.specs.declared.numbers.Ssid.{Ssid}
use Rattle.media_db.specs.declared.records.Record.{Record}
use Rattle.media_db.specs.declared.records.RecordState.TheVariants.{Complete}
use Rattle.media_db.specs.Rows.{find_record}
use Rattle.dep_chain.specs.declared.chains.ChainFault.{ChainFault}
use Rattle.dep_chain.specs.declared.chains.ChainFault.TheVariants as faults

-- the set has a complete record
pub record IsComplete (rows : List Record) (ssid : ℕ) (row : Record) : Type 0 where
  pub found : find_record ssid rows ≡ Some row
  pub complete : row.state ≡ Complete

-- the set has a complete record, and isn't purged
pub record IsWhole (rows : List Record) (ssid : ℕ) (row : Record) : Type 0 where
  pub complete : IsComplete rows ssid row
  pub kept : row.purged ≡ false

-- a set, its base and so on down to one that stands alone, each whole
pub data IsChain (rows : List Record) : Ssid → List Ssid → Type 0 where
  alone : (ssid : Ssid) (row : Record) → IsWhole rows ssid.0 row → row.base.0 ≡ 0
      → IsChain rows ssid (ssid ∷ [])
  based : (ssid : Ssid) (row : Record) (below : List Ssid) → IsWhole rows ssid.0 row
      → row.base.0 ≢ 0 → IsChain rows row.base below → IsChain rows ssid (ssid ∷ below)

-- going down from a set, the first that isn't whole has no complete record, or is purged
pub data Breaks (rows : List Record) : Ssid → ChainFault → Type 0 where
  gone : (ssid : Ssid) → ((row : Record) → ¬ IsComplete rows ssid.0 row)
      → Breaks rows ssid (faults.BaseGone ssid)
  purged : (ssid : Ssid) (row : Record) → IsComplete rows ssid.0 row → row.purged ≡ true
      → Breaks rows ssid (faults.Purged ssid)
  lower : (ssid : Ssid) (row : Record) (fault : ChainFault) → IsWhole rows ssid.0 row
      → row.base.0 ≢ 0 → Breaks rows row.base fault → Breaks rows ssid fault

-- why there is no chain: it breaks there; want of memory is free
abbrev pub IsNoChain : List Record → Ssid → ChainFault → Type 0
IsNoChain rows ssid fault = (fault ≡ faults.Memory) ⊎ Breaks rows ssid fault
