-- What the calls do of which a request's reading is made.
use Rattle.std.specs.Prelude.{◌≡◌, ◌≢◌, ◌⊎◌, ℕ, ◌+◌, ◌-◌, ◌<◌, ◌≤◌, List, [], ◌++◌, length, take, drop}
use Rattle.std.specs.Prelude.{Option, Some, None, Result, Ok, Err}
use Rattle.room_base.specs.Outside.{SourceView, Told}
use Rattle.desk_request.specs.Heads.{BeginsWith, HasNoHead, NeverHasHead}
use Rattle.desk_request.specs.Reading.{Took}
use Rattle.desk_request.specs.declared.head.Head.{Head}
use Rattle.desk_request.specs.declared.fault.RequestFault.{RequestFault}
use Rattle.desk_request.specs.declared.fault.RequestFault.TheVariants.{Bad, ReadFault, Memory}

-- nothing is left, where the source tells what is
abbrev pub HasEnded : SourceView → Type 0
HasEnded source = Told source.tells (source.left ≡ [])

-- bytes were put behind those in a list, as many as the answer says, and none where it failed
abbrev pub AddsPiece : SourceView → List ℕ → Result ℕ RequestFault → Type 0
AddsPiece new more (Ok count) = (count ≡ length more) × (count ≡ 0 → HasEnded new)
AddsPiece new more (Err Bad) = ⊥
AddsPiece new more (Err ReadFault) = more ≡ []
AddsPiece new more (Err Memory) = more ≡ []

-- one take behind the bytes of a list
pub record TakesPiece (old new : SourceView) (before after : List ℕ)
    (answer : Result ℕ RequestFault) : Type 0 where
  pub more : List ℕ
  pub added : after ≡ before ++ more
  pub took : Told old.tells (Took old new more)
  pub adds : AddsPiece new more answer

-- what an answer says of the bytes in which a head was looked for
abbrev pub FindsFirst : SourceView → List ℕ → Result (Option Head) RequestFault → Type 0
FindsFirst new bytes (Ok (Some found)) = BeginsWith bytes found
FindsFirst new bytes (Ok None) = (bytes ≡ []) × HasEnded new
FindsFirst new bytes (Err Bad) =
    (bytes ≢ []) × HasNoHead bytes × (NeverHasHead bytes ⊎ HasEnded new)
FindsFirst new bytes (Err ReadFault) = HasNoHead bytes
FindsFirst new bytes (Err Memory) = Unit {0}

-- Takes behind the bytes of a list, until a head is found or can't be. Nothing is taken where these
-- begin with one.
pub record ReadsHead (old new : SourceView) (before after : List ℕ)
    (answer : Result (Option Head) RequestFault) : Type 0 where
  pub more : List ℕ
  pub added : after ≡ before ++ more
  pub took : Told old.tells (Took old new more)
  pub finds : FindsFirst new after answer
  pub still : HasNoHead before ⊎ (more ≡ [])

-- what an answer says of the last bytes, where they have no head
abbrev pub EndsAs : List ℕ → Result (Option Head) RequestFault → Type 0
EndsAs bytes (Ok (Some found)) = ⊥
EndsAs bytes (Ok None) = bytes ≡ []
EndsAs bytes (Err Bad) = bytes ≢ []
EndsAs bytes (Err ReadFault) = ⊥
EndsAs bytes (Err Memory) = ⊥

-- what an answer says of a list that was to be filled
abbrev pub FillsUp : {T : Type 0} → SourceView → ℕ → List ℕ → Result T RequestFault → Type 0
FillsUp new wanted more (Ok _) = length more ≡ wanted
FillsUp new wanted more (Err Bad) = (length more < wanted) × HasEnded new
FillsUp new wanted more (Err ReadFault) = length more < wanted
FillsUp new wanted more (Err Memory) = ⊥

-- takes into a list from `at` on, until it is full
pub record Fills {T : Type 0} (old new : SourceView) (before after : List ℕ) (at : ℕ)
    (answer : Result T RequestFault) : Type 0 where
  pub more : List ℕ
  pub filled : take (at + length more) after ≡ take at before ++ more
  pub took : Told old.tells (Took old new more)
  pub fills : FillsUp new (length before - at) more answer

-- What an answer says of a body of so many bytes, of which those behind `at` in the buffer are the
-- first and those that were taken the others. Nothing is taken where all are in the buffer.
abbrev pub GivesBody : {V : Type 0} → (V → List ℕ) → SourceView → ℕ → ℕ → List ℕ → List ℕ → List ℕ
    → Result V RequestFault → Type 0
GivesBody items new at count before after more (Ok body) =
    (drop at before ++ more ≡ items body ++ after) × (length (items body) ≡ count)
    × (count ≤ length (drop at before) → more ≡ [])
GivesBody items new at count before after more (Err Bad) =
    (after ≡ before) × (length (drop at before ++ more) < count) × HasEnded new
GivesBody items new at count before after more (Err ReadFault) =
    (after ≡ before) × (length (drop at before ++ more) < count)
GivesBody items new at count before after more (Err Memory) = (after ≡ before) × (more ≡ [])

-- a body is taken from a buffer, from `at` on, and from the source
pub record ReadsBody {V : Type 0} (items : V → List ℕ) (old new : SourceView)
    (before after : List ℕ) (at count : ℕ) (answer : Result V RequestFault) : Type 0 where
  pub more : List ℕ
  pub took : Told old.tells (Took old new more)
  pub gives : GivesBody items new at count before after more answer
