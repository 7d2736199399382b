-- What is told of a source, a sink and a clock, and what each call does where it is told.
use Rattle.std.specs.Prelude.{◌≡◌, ℕ, ◌≤◌, ◌<◌, Bool, IsTrue, List, [], ◌∷◌, ◌++◌, length, take}
use Rattle.std.specs.Prelude.{drop, Result, Ok, Err}
use Rattle.room_base.specs.Faults.{HasCause}
use Rattle.room_base.specs.declared.numbers.Moment.{Moment}
use Rattle.room_base.specs.declared.fault.Failed.{Failed}

-- a source: whether it tells its bytes, those taken, those left, and its count of faults
pub record SourceView : Type 0 where
  pub tells : Bool
  pub taken : List ℕ
  pub left : List ℕ
  pub faults : ℕ

-- a sink: whether it tells its bytes, those written, and its count of faults
pub record SinkView : Type 0 where
  pub tells : Bool
  pub written : List ℕ
  pub faults : ℕ

-- a clock: whether it tells its moments, those that it still has, and its count of faults
pub record ClockView : Type 0 where
  pub tells : Bool
  pub moments : List Moment
  pub faults : ℕ

-- P holds, where the object tells its contents
abbrev pub Told : Bool → Type 0 → Type 0
Told tells P = IsTrue tells → P

-- so many bytes moved from the front of those left to the end of those taken, and to the front of
-- `into`
pub record Moves (old new : SourceView) (into : List ℕ) (count : ℕ) : Type 0 where
  pub enough : count ≤ length old.left
  pub taken : new.taken ≡ old.taken ++ take count old.left
  pub left : new.left ≡ drop count old.left
  pub given : take count into ≡ take count old.left
  pub ended : 0 < length into → count ≡ 0 → old.left ≡ []

-- what a take did: nothing, where it failed
abbrev pub TakesBytes : SourceView → SourceView → List ℕ → Result ℕ Failed → Type 0
TakesBytes old new into (Ok count) = Moves old new into count
TakesBytes old new into (Err _) = (new.taken ≡ old.taken) × (new.left ≡ old.left)

-- some first bytes of the piece were added
abbrev pub AddsFront : List ℕ → List ℕ → List ℕ → Type 0
AddsFront old new piece = (count : ℕ) × (new ≡ old ++ take count piece)

-- what a put did: it added as many first bytes as it answers, or some where it failed
abbrev pub Puts : List ℕ → List ℕ → List ℕ → Result ℕ Failed → Type 0
Puts old new piece (Ok count) = new ≡ old ++ take count piece
Puts old new piece (Err _) = AddsFront old new piece

-- what a writing of the whole piece did
abbrev pub Writes : {T : Type 0} → List ℕ → List ℕ → List ℕ → Result T Failed → Type 0
Writes old new piece (Ok _) = new ≡ old ++ piece
Writes old new piece (Err _) = AddsFront old new piece

-- a writing of the whole text: no count of faults falls, and where it failed the count rose
pub record WritesText {T : Type 0} (text : List ℕ) (old new : SinkView)
    (answer : Result T Failed) : Type 0 where
  pub cause : HasCause old.faults new.faults answer
  pub tells : new.tells ≡ old.tells
  pub written : Told old.tells (Writes old.written new.written text answer)

-- the moments after the first was answered: the last one stays
abbrev pub later_moments : List Moment → List Moment
later_moments [] = []
later_moments (last ∷ []) = last ∷ []
later_moments (first ∷ next ∷ rest) = next ∷ rest

-- the answer is the first moment
abbrev pub IsFirstMoment : List Moment → Moment → Type 0
IsFirstMoment [] answer = ⊥
IsFirstMoment (first ∷ rest) answer = answer ≡ first

-- what asking the clock did: nothing, where it failed
abbrev pub Answers : List Moment → List Moment → Result Moment Failed → Type 0
Answers old new (Ok answer) = IsFirstMoment old answer × (new ≡ later_moments old)
Answers old new (Err _) = new ≡ old
