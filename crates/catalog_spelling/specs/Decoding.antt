-- What is decoded of bytes: a change and nothing else, or the place of the first field that isn't
-- allowed.
use Rattle.std.specs.Prelude.{◌≡◌, ◌⊎◌, ℕ, ◌≤◌, ◌<◌, List, ◌++◌, length, Result, Ok, Err}
use Rattle.room_base.specs.Numbers.{max_moment}
use Rattle.room_base.specs.declared.numbers.Moment.{Moment}
use Rattle.catalog_change.specs.Changes.{IsChange}
use Rattle.catalog_change.specs.declared.change.Change.{Change}
use Rattle.catalog_spelling.specs.declared.fault.DecodeFault.{DecodeFault}
use Rattle.catalog_spelling.specs.declared.fault.DecodeFault.TheVariants as faults
use Rattle.catalog_spelling.specs.Reading.{Part}
use Rattle.catalog_spelling.specs.Changes.{FitsChange, change_at, change_text}

-- a change that is allowed, at a moment that may be written
pub record IsStamped (moment : ℕ) (change : Change) : Type 0 where
  pub written : moment ≤ max_moment
  pub allowed : IsChange change
  pub fits : FitsChange change

-- bytes are the text of such a change
pub record ChangeText (bytes : List ℕ) (moment : ℕ) (change : Change) : Type 0 where
  pub is : IsStamped moment change
  pub text : bytes ≡ change_text moment change

-- Bytes have a first field that isn't allowed, or that they end in. The bytes before it are whole
-- fields that are allowed: alone they are read to their end, where another is missing.
abbrev pub StopsAt : {X : Type 0} → (List ℕ → Part X) → List ℕ → List ℕ → Type 0
StopsAt at before bad = (at (before ++ bad) ≡ Err (length bad)) × (at before ≡ Err 0)

-- Bytes follow a value that is read.
abbrev pub EndsAt : {X : Type 0} → (List ℕ → Part X) → List ℕ → List ℕ → Type 0
EndsAt {X = X} at before bad =
    (x : X) × (at (before ++ bad) ≡ Ok (x, bad)) × (0 < length bad)

-- the first field that isn't allowed begins at this place
pub record HasBad {X : Type 0} (at : List ℕ → Part X) (bytes : List ℕ) (place : ℕ)
    : Type 0 where
  pub before : List ℕ
  pub bad : List ℕ
  pub parts : bytes ≡ before ++ bad
  pub place_is : place ≡ length before
  pub stops : StopsAt at before bad ⊎ EndsAt at before bad

-- what decoding answers
abbrev pub Decodes : List ℕ → Result (Moment × Change) DecodeFault → Type 0
Decodes bytes (Ok x) = ChangeText bytes x.0.0 x.1
Decodes bytes (Err (faults.Bad place)) = HasBad change_at bytes place
Decodes bytes (Err faults.Memory) = Unit {0}
