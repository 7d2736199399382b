-- Which save sets depend on which.
use Rattle.std.specs.Prelude.{◌≡◌, ◌≢◌, ℕ, ◌⊎◌, List, Some}
use Rattle.media_db.specs.declared.records.Record.{Record}
use Rattle.media_db.specs.Rows.{find_record}

-- a set's record names this one as its base; 0 names none
pub record HasBase (rows : List Record) (ssid base : ℕ) : Type 0 where
  pub row : Record
  pub found : find_record ssid rows ≡ Some row
  pub named : row.base.0 ≡ base
  pub set : base ≢ 0

-- a set depends on what is reached from it by one or more bases
pub data Depends (rows : List Record) : ℕ → ℕ → Type 0 where
  on_base : (ssid base : ℕ) → HasBase rows ssid base → Depends rows ssid base
  on_further : (ssid base other : ℕ) → HasBase rows ssid base → Depends rows base other
      → Depends rows ssid other

-- it is the set itself, or depends on it
abbrev pub StandsOn : List Record → ℕ → ℕ → Type 0
StandsOn rows ssid other = (ssid ≡ other) ⊎ Depends rows ssid other
