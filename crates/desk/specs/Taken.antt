-- What was taken of an input: which requests were read, and which of them were answered.
use Rattle.std.specs.Prelude.{◌≡◌, ℕ, ◌+◌, ◌≤◌, ◌<◌, List, [], ◌∷◌, ◌++◌, length, Option, Some}
use Rattle.std.specs.Prelude.{None, Ok}
use Rattle.room_base.specs.Outside.{SourceView}
use Rattle.desk_request.specs.Reading.{Took}
use Rattle.desk_request.specs.Requests.{RequestText, Requests}
use Rattle.room_command.specs.declared.command.Command.{Command}
use Rattle.desk_command.specs.Commands.{CommandOf}
use Rattle.desk.specs.Limits.{input_limit}
use Rattle.desk.specs.declared.end.DeskEnd.{DeskEnd}
use Rattle.desk.specs.declared.end.DeskEnd.TheVariants as ends

-- they are all requests of the bytes, whatever stands behind them
abbrev pub AreAll : List ℕ → List RequestText → Type 0
AreAll taken requests = (bad : Option ℕ) × Requests taken requests bad

-- they are the first requests of the bytes
abbrev pub AreFirst : List ℕ → List RequestText → Type 0
AreFirst taken requests =
    (front : List ℕ) × (others : List ℕ) × (taken ≡ front ++ others) × Requests front requests None

-- it asks for a command
abbrev pub AsksCommand : RequestText → Type 0
AsksCommand request = (command : Command) × CommandOf request (Ok command)

-- Of the bytes that were taken these requests were answered. All were, and the end is what stands
-- behind them; or all that were read; or all but the last that was read, which asks for a command,
-- and for which there was no moment. Where bytes begin no request, none that were left could have
-- made them begin one.
abbrev pub AnswersTaken : DeskEnd → List ℕ → List ℕ → List RequestText → Type 0
AnswersTaken ends.Done taken left requests =
    Requests taken requests None × (left ≡ []) × (length taken < input_limit)
AnswersTaken (ends.BadInput offset) taken left requests = Requests taken requests (Some offset)
    × Requests (taken ++ left) requests (Some offset) × (length taken < input_limit)
AnswersTaken ends.InputLimit taken left requests =
    AreAll taken requests × (length taken ≡ input_limit)
AnswersTaken ends.ReadFault taken left requests = AreAll taken requests
AnswersTaken ends.ClockFault taken left requests =
    (last : RequestText) × AsksCommand last × AreFirst taken (requests ++ last ∷ [])
AnswersTaken _ taken left requests = AreFirst taken requests

pub record HasTaken (end : DeskEnd) (requests : List RequestText) (old new : SourceView)
    : Type 0 where
  pub taken : List ℕ
  pub took : Took old new taken
  pub within : length taken ≤ input_limit
  pub answers : AnswersTaken end taken new.left requests

-- These requests were read, `bytes` were taken and aren't read, and so many more may be taken.
pub record HasRead (requests : List RequestText) (old new : SourceView) (bytes : List ℕ)
    (allowed : ℕ) : Type 0 where
  pub read : List ℕ
  pub took : Took old new (read ++ bytes)
  pub are : Requests read requests None
  pub limit : length read + length bytes + allowed ≡ input_limit
