-- The plan of giving a save up.
use Rattle.std.specs.Prelude.{[], ◌∷◌, not, Result, Ok}
use Rattle.std.specs.Option.{is_some}
use Rattle.room_base.specs.declared.numbers.Moment.{Moment}
use Rattle.room_base.specs.declared.numbers.Ssid.{Ssid}
use Rattle.room_base.specs.declared.refusal.Refusal.{Refusal}
use Rattle.room_base.specs.declared.refusal.Refusal.TheVariants.{NotOpen, TooMany}
use Rattle.catalog_change.specs.declared.change.Change.TheVariants.{Aborted}
use Rattle.room_command.specs.declared.answer.Answer.TheVariants.{Empty}
use Rattle.room_command.specs.declared.reply.Reply.TheVariants.{Done}
use Rattle.save_session.specs.Sessions.{find_session}
use Rattle.room_effects.specs.View.{RoomView}
use Rattle.room_effects.specs.Effects.{Close, Enter}
use Rattle.room_effects.specs.Checked.{checked, unless}
use Rattle.room_effects.specs.Entering.{ceiling, is_at_ceiling, with_first_file}
use Rattle.room_effects.specs.Plans.{Plan, Do}

-- its session is open, and a number is left for the change
abbrev pub abort_checks : Ssid → RoomView → Result (Unit {0}) Refusal
abort_checks ssid room = unless (is_some (find_session ssid.0 room.sessions)) (NotOpen ssid)
    (unless (not (is_at_ceiling room.catalogue)) (TooMany ceiling) (Ok tt))

-- The session is closed, and the record is aborted. What was pushed stays where it is.
abbrev pub giving_up : Moment → Ssid → RoomView → Plan
giving_up m ssid room =
    Do (Close ssid.0 ∷ with_first_file room (Enter m (Aborted ssid) ∷ [])) (Done Empty)

abbrev pub abort_plan : Moment → Ssid → RoomView → Plan
abort_plan m ssid room = checked (abort_checks ssid room) (λ done. giving_up m ssid room)
