-- The plan of the question what a group saves today.
use Rattle.std.specs.Prelude.{◌≡◌, ℕ, List, [], codes, Option, Some, None, IfSome, MatchOption}
use Rattle.room_base.specs.declared.numbers.Moment.{Moment}
use Rattle.room_base.specs.declared.refusal.Refusal.TheVariants.{NoMemory, NoSuch}
use Rattle.room_rules.specs.declared.group.Group.{Group}
use Rattle.room_rules.specs.declared.group.Planned.{Planned}
use Rattle.sched_levels.specs.Plans.{IsPlan}
use Rattle.room_command.specs.declared.answer.Answer.TheVariants as answers
use Rattle.room_command.specs.declared.reply.Reply.TheVariants.{Done}
use Rattle.room_effects.specs.View.{RoomView}
use Rattle.room_effects.specs.Plans.{Plan, Refuse, Do}
use Rattle.save_begin.specs.Asking.{group_action, group_of}

-- what is planned is answered; it isn't known where there is no memory for it
abbrev pub planned_plan : Option (List Planned) → Plan
planned_plan None = Refuse NoMemory
planned_plan (Some planned) = Do [] (Done (answers.Plan planned))

-- each member, with the level and the base of the save that would begin now
pub record IsGroupPlan (m : Moment) (room : RoomView) (plan : Plan) (group : Group)
    : Type 0 where
  pub planned : Option (List Planned)
  pub are : IfSome planned
      (IsPlan room.catalogue.records (group_action m room group) group.members)
  pub is : plan ≡ planned_plan planned

abbrev pub IsSavegrpPlan : Moment → List ℕ → RoomView → Plan → Type 0
IsSavegrpPlan m name room plan = MatchOption (group_of name room)
    (plan ≡ Refuse (NoSuch (codes "group") name)) (IsGroupPlan m room plan)
