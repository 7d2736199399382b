-- The plan of taking a save set off the record.
use Rattle.std.specs.Prelude.{◌≡◌, not, Bool, [], ◌∷◌, codes, decimal}
use Rattle.std.specs.Prelude.{Option, Some, None, IfSome, Result, Ok, Err}
use Rattle.std.specs.Option.{is_some}
use Rattle.room_base.specs.declared.numbers.Moment.{Moment}
use Rattle.room_base.specs.declared.numbers.Ssid.{Ssid}
use Rattle.room_base.specs.declared.refusal.Refusal.{Refusal}
use Rattle.room_base.specs.declared.refusal.Refusal.TheVariants.{InUse, NoMemory, NoSuch, SetBusy}
use Rattle.media_db.specs.Rows.{find_record}
use Rattle.catalog_change.specs.declared.change.Change.TheVariants.{Deleted}
use Rattle.dep_chain.specs.Need.{IsLeastUser}
use Rattle.save_session.specs.Sessions.{find_session}
use Rattle.room_checks.specs.OpenSets.{open_sets}
use Rattle.room_command.specs.declared.answer.Answer.TheVariants.{Empty}
use Rattle.room_command.specs.declared.reply.Reply.TheVariants.{Done}
use Rattle.room_effects.specs.View.{RoomView}
use Rattle.room_effects.specs.Effects.{Enter}
use Rattle.room_effects.specs.Checked.{behind_check, checked, unless}
use Rattle.room_effects.specs.Entering.{entering}
use Rattle.room_effects.specs.Plans.{Plan}

-- What was asked of the sets on record and the open sessions. It isn't known where there is no
-- memory for the open sessions.
abbrev pub known : {X : Type 0} → Option X → Result X Refusal
known None = Err NoMemory
known (Some answer) = Ok answer

-- this is the least other set that depends on the set and is complete and unexpired, or has an open
-- session, if there is one
abbrev pub IsUser : Moment → Ssid → RoomView → Option Ssid → Type 0
IsUser m ssid room = IsLeastUser room.catalogue.records (open_sets room) m.0 ssid.0

abbrev pub unused : Option Ssid → Result (Unit {0}) Refusal
unused None = Ok tt
unused (Some user) = Err (InUse (codes "set") (decimal user.0))

-- no other set needs it
abbrev pub no_user : Option (Option Ssid) → Result (Unit {0}) Refusal
no_user asked = behind_check (known asked) unused

abbrev pub is_on_record : Ssid → RoomView → Bool
is_on_record ssid room = is_some (find_record ssid.0 room.catalogue.records)

abbrev pub is_open : Ssid → RoomView → Bool
is_open ssid room = is_some (find_session ssid.0 room.sessions)

-- the set is on record, no session of it is open, and no other set needs it
abbrev pub delete_checks : Ssid → Option (Option Ssid) → RoomView → Result (Unit {0}) Refusal
delete_checks ssid asked room =
    unless (is_on_record ssid room) (NoSuch (codes "set") (decimal ssid.0))
    (unless (not (is_open ssid room)) (SetBusy ssid) (no_user asked))

-- the plan for the answer to which other set needs it
pub record IsDeletePlan (m : Moment) (ssid : Ssid) (room : RoomView) (plan : Plan) : Type 0 where
  pub asked : Option (Option Ssid)
  pub answer : IfSome asked (IsUser m ssid room)
  pub is : plan ≡ checked (delete_checks ssid asked room)
      (λ done. entering [] (Enter m (Deleted ssid) ∷ []) (Done Empty) room)
