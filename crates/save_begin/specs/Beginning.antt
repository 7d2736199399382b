-- The plan of the beginning of a save.
use Rattle.std.specs.Prelude.{◌≡◌, ℕ, List, ◌∷◌, length, Option, Some, None, Result, Ok, Err}
use Rattle.std.specs.Prelude.{MatchResult, if◌then◌else◌}
use Rattle.room_base.specs.declared.numbers.Moment.{Moment}
use Rattle.room_base.specs.declared.refusal.Refusal.{Refusal}
use Rattle.room_base.specs.declared.refusal.Refusal.TheVariants.{NeedVolume, TooMany}
use Rattle.save_stream.specs.declared.head.SetHead.{SetHead}
use Rattle.save_stream.specs.Spelling.{head_text}
use Rattle.catalog_change.specs.declared.change.Change.TheVariants as changes
use Rattle.room_command.specs.declared.answer.Answer.{Answer}
use Rattle.room_command.specs.declared.answer.Answer.TheVariants as answers
use Rattle.room_command.specs.declared.reply.Reply.TheVariants.{Done}
use Rattle.room_effects.specs.View.{RoomView}
use Rattle.room_effects.specs.Effects.{Effect, Enter, Open}
use Rattle.room_effects.specs.Checked.{checked}
use Rattle.room_effects.specs.Entering.{ceiling, is_at_ceiling, with_first_file}
use Rattle.room_effects.specs.Plans.{Plan, Refuse, Do}
use Rattle.room_placing.specs.Placing.{IsDriveFor, placing}
use Rattle.save_begin.specs.declared.asked.Allowed.{Allowed}
use Rattle.save_begin.specs.declared.asked.Asked.{Asked}
use Rattle.save_begin.specs.declared.choosing.Chosen.{Chosen}
use Rattle.save_begin.specs.Asking.{AreAllowed, begin_checks}
use Rattle.save_begin.specs.Heading.{IsHeadFor}

-- ---- the drive

-- the head goes to this drive
abbrev pub drive_check : SetHead → Option ℕ → Result Chosen Refusal
drive_check head None = Err (NeedVolume head.pool)
drive_check head (Some drive) = Ok (record { head = head; drive = drive })

-- ---- the effects

-- the record is entered, and the head's bytes are the first that go to the drive
abbrev pub entering_head : Moment → Chosen → RoomView → List Effect
entering_head m chosen room = with_first_file room (Enter m (changes.Begun chosen.head)
    ∷ placing chosen.drive chosen.head.ssid.0 0 (head_text chosen.head) room)

-- the first piece of the save comes at offset 0 behind the head
abbrev pub begun_answer : SetHead → Answer
begun_answer head = answers.Begun head.base head.level 0 head.pool head.saved head.ssid

-- the session is opened before anything is written, since it takes memory
abbrev pub begin_plan : Moment → RoomView → Chosen → Plan
begin_plan m room chosen =
    Do (Open chosen.head ∷ entering_head m chosen room) (Done (begun_answer chosen.head))

abbrev pub chosen_plan : Moment → RoomView → Chosen → Plan
chosen_plan m room chosen =
    if is_at_ceiling room.catalogue then Refuse (TooMany ceiling) else begin_plan m room chosen

-- ---- all of it

-- the plan of a save for which this level is wanted
pub record IsLevelPlan (m : Moment) (asked : Asked) (room : RoomView) (plan : Plan) (wanted : ℕ)
    : Type 0 where
  pub head : SetHead
  pub is_head : IsHeadFor m asked wanted room head
  pub drive : Option ℕ
  pub picked : IsDriveFor None head.pool (length (head_text head)) room drive
  pub is : plan ≡ checked (drive_check head drive) (chosen_plan m room)

pub record IsBeginPlan (m : Moment) (asked : Asked) (room : RoomView) (plan : Plan)
    : Type 0 where
  pub allowed : Allowed
  pub are : AreAllowed allowed asked
  pub is : MatchResult (begin_checks allowed m asked room)
      (IsLevelPlan m asked room plan) (λ refusal. plan ≡ Refuse refusal)
