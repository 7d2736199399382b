-- What the steps are that a desk is made of.
use Rattle.std.specs.Prelude.{◌≡◌, ℕ, ◌≤◌, List, ◌++◌, Result, Ok, Err}
use Rattle.room_base.specs.Faults.{Rose}
use Rattle.room_base.specs.Outside.{AddsFront, ClockView, IsFirstMoment, SinkView, Told}
use Rattle.room_base.specs.Outside.{later_moments}
use Rattle.room_base.specs.declared.numbers.Moment.{Moment}
use Rattle.room_base.specs.declared.refusal.Refusal.{Refusal}
use Rattle.room_command.specs.declared.command.Command.{Command}
use Rattle.room_command.specs.declared.reply.Reply.{Reply}
use Rattle.room_command.specs.declared.reply.Reply.TheVariants as replies
use Rattle.room_disk.specs.Disk.{DiskView, Quiet}
use Rattle.room_effects.specs.View.{IsRoom, RoomView}
use Rattle.journal_replay.specs.declared.fault.ReplayFault.{ReplayFault}
use Rattle.journal_replay.specs.declared.fault.ReplayFault.TheVariants as faults
use Rattle.room_turns.specs.Steps.{Turn}
use Rattle.room_core.specs.Opening.{IsOpenedBy}
use Rattle.desk_request.specs.Requests.{RequestText}
use Rattle.desk_command.specs.Commands.{AnswersRequest, CommandOf}
use Rattle.desk.specs.Runs.{FailsToOpen}
use Rattle.desk.specs.declared.end.DeskEnd.{DeskEnd}
use Rattle.desk.specs.declared.end.DeskEnd.TheVariants as ends

-- ---- answering

-- the request asks for no command, and this refusal is the reply
pub record IsRefused (request : RequestText) (reply : Reply) : Type 0 where
  pub refusal : Refusal
  pub is : reply ≡ replies.Refused refusal
  pub asked : AnswersRequest request (Err refusal)

-- the room was called with the request's command, at the clock's first moment
pub record IsCalled (request : RequestText) (reply : Reply) (old new : RoomView)
    (before now : DiskView) (earlier later : ClockView) : Type 0 where
  pub command : Command
  pub moment : Moment
  pub asked : CommandOf request (Ok command)
  pub timed : Told earlier.tells (IsFirstMoment earlier.moments moment
      × (later.moments ≡ later_moments earlier.moments))
  pub turn : Turn (record { clock = moment.0; command = command; reply = reply }) old new
      before now
  pub is : IsRoom new

-- ---- sending

-- the text was written; or a front of it, where the output failed; or nothing, for want of memory
abbrev pub Sends : List ℕ → SinkView → SinkView → Result (Unit {0}) DeskEnd → Type 0
Sends text old new (Ok _) = Told old.tells (new.written ≡ old.written ++ text)
Sends text old new (Err ends.Memory) = Told old.tells (new.written ≡ old.written)
Sends text old new (Err ends.WriteFault) = Rose old.faults new.faults
    × Told old.tells (AddsFront old.written new.written text)
Sends text old new (Err _) = ⊥

-- ---- opening

-- the end of a desk whose room can't be opened
abbrev pub end_of : ReplayFault → DeskEnd
end_of (faults.Damaged file place) = ends.DamagedJournal file place
end_of (faults.Failed file) = ends.DiskFault
end_of faults.Memory = ends.Memory

-- what opening leaves of a disk
pub record OpensQuietly (before now : DiskView) : Type 0 where
  pub tells : now.tells ≡ before.tells
  pub later : (file : ℕ) → before.faults file ≤ now.faults file
  pub quiet : Told before.tells (Quiet before now)

-- the room is opened again, or stays closed
abbrev pub Reopens : RoomView → RoomView → DiskView → DiskView → Result (Unit {0}) DeskEnd → Type 0
Reopens old new before now (Ok _) = IsOpenedBy new before now
Reopens old new before now (Err end) = (new ≡ old) × FailsToOpen end before now
