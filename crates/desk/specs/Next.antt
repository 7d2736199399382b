-- What the next request of an input is, and how the reading of an input ends.
use Rattle.std.specs.Prelude.{◌≡◌, ◌⊎◌, ℕ, ◌+◌, ◌-◌, ◌<◌, Bool, true, false, List, [], ◌++◌, length}
use Rattle.std.specs.Prelude.{take, Option, Some, None, Result, Ok, Err}
use Rattle.room_base.specs.Outside.{SourceView}
use Rattle.desk_request.specs.Reading.{Reads, Took}
use Rattle.desk_request.specs.Requests.{BeginsNone, HasNoFirst, IsRequest, RequestText}
use Rattle.desk_request.specs.declared.fault.RequestFault.{RequestFault}
use Rattle.desk_request.specs.declared.fault.RequestFault.TheVariants as faults
use Rattle.desk.specs.Limits.{input_limit}
use Rattle.desk.specs.declared.end.DeskEnd.{DeskEnd}
use Rattle.desk.specs.declared.end.DeskEnd.TheVariants as ends

-- what an answer of the reader is to the desk, where so many bytes were read before
abbrev pub ended : Result (Option RequestText) RequestFault → Bool → ℕ → Result RequestText DeskEnd
ended (Ok (Some request)) is_limit read = Ok request
ended (Ok None) true read = Err ends.InputLimit
ended (Ok None) false read = Err ends.Done
ended (Err faults.Bad) true read = Err ends.InputLimit
ended (Err faults.Bad) false read = Err (ends.BadInput read)
ended (Err faults.ReadFault) is_limit read = Err ends.ReadFault
ended (Err faults.Memory) is_limit read = Err ends.Memory

-- the ends that reading may have
abbrev pub IsReadingEnd : DeskEnd → Type 0
IsReadingEnd ends.Done = Unit {0}
IsReadingEnd (ends.BadInput offset) = Unit {0}
IsReadingEnd ends.InputLimit = Unit {0}
IsReadingEnd ends.ReadFault = Unit {0}
IsReadingEnd ends.Memory = Unit {0}
IsReadingEnd _ = ⊥

-- A call took some bytes, of as many as it may take, and answers by them.
pub record ReadsWithin (old new : SourceView) (bytes rest : List ℕ) (before after : ℕ)
    (answer : Result (Option RequestText) RequestFault) : Type 0 where
  pub more : List ℕ
  pub took : Took old new more
  pub allowed : length more + after ≡ before
  pub reads : Reads (bytes ++ more) rest (take after new.left) answer

-- What the bytes at hand are: those that were taken and weren't read. `rest` of them aren't read
-- now, `left` are left in the input, `read` were read before, and so many more may be taken.
abbrev pub IsNext : List ℕ → List ℕ → List ℕ → ℕ → ℕ → Result RequestText DeskEnd → Type 0
IsNext hand rest left read allowed (Ok request) =
    (front : List ℕ) × (hand ≡ front ++ rest) × IsRequest front request
IsNext hand rest left read allowed (Err ends.Done) = (hand ≡ []) × (left ≡ []) × (0 < allowed)
IsNext hand rest left read allowed (Err (ends.BadInput offset)) =
    BeginsNone hand × BeginsNone (hand ++ left) × (offset ≡ read) × (0 < allowed)
IsNext hand rest left read allowed (Err ends.InputLimit) =
    ((hand ≡ []) ⊎ BeginsNone hand) × (allowed ≡ 0)
IsNext hand rest left read allowed (Err ends.ReadFault) = HasNoFirst hand
IsNext hand rest left read allowed (Err ends.Memory) = Unit {0}
IsNext hand rest left read allowed (Err _) = ⊥

pub record ReadsNext (old new : SourceView) (bytes rest : List ℕ) (before after : ℕ)
    (result : Result RequestText DeskEnd) : Type 0 where
  pub more : List ℕ
  pub took : Took old new more
  pub allowed : length more + after ≡ before
  pub next : IsNext (bytes ++ more) rest new.left ((input_limit - before) - length bytes) after
      result
