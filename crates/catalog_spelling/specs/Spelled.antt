-- Reading undoes spelling: what is read is spelled so and allowed, and what is spelled and allowed
-- is read, whatever follows.
use Rattle.std.specs.Prelude.{◌≡◌, ℕ, List, ◌++◌, length, Ok, Err}
use Rattle.save_stream.specs.Standing.{AreBytes}
use Rattle.catalog_spelling.specs.Reading.{Part}

-- bytes begin with a text, and these follow
pub record Took (bytes text rest : List ℕ) : Type 0 where
  pub parts : bytes ≡ text ++ rest
  pub fits : AreBytes rest

-- Reading stops at a field that isn't allowed, so many bytes before the end. The bytes before it
-- are whole fields that are allowed: alone they are read to their end, where another is missing.
pub record StopsIn {X : Type 0} (at : List ℕ → Part X) (bytes : List ℕ) (behind : ℕ)
    : Type 0 where
  pub before : List ℕ
  pub bad : List ℕ
  pub parts : bytes ≡ before ++ bad
  pub size : behind ≡ length bad
  pub whole : at before ≡ Err 0

-- what holds of what was read, or where reading stopped
abbrev pub Judged : {X Y : Type 0}
    → (List ℕ → Part X) → List ℕ → Part Y → (Y → List ℕ → Type 0) → Type 0
Judged at bytes (Ok y) P = P y.0 y.1
Judged at bytes (Err behind) P = StopsIn at bytes behind

pub record Reads {X : Type 0} (at : List ℕ → Part X) (text : X → List ℕ) (Is : X → Type 0)
    : Type 0 where
  pub found : (bytes : List ℕ) → AreBytes bytes
      → Judged at bytes (at bytes) (λ x rest. Took bytes (text x) rest × Is x)
  pub again : (x : X) (rest : List ℕ) → Is x → at (text x ++ rest) ≡ Ok (x, rest)
