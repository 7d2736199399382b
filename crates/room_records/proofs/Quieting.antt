-- Entering a change that no open session is about.
use Rattle.std.proofs.Common.{ℕ, Bool, true, false, List, [], ◌∷◌, ◌++◌}
use Rattle.std.specs.Prelude.{if◌then◌else◌}
use Rattle.std.specs.Option.{is_some}
use Rattle.room_base.specs.declared.numbers.Moment.{Moment}
use Rattle.room_base.specs.declared.refusal.Refusal.TheVariants.{TooMany}
use Rattle.catalog_change.specs.declared.change.Change.{Change}
use Rattle.catalog_spelling.specs.Snapshots.{snapshot_text}
use Rattle.room_catalog.specs.Held.{catalogue_of}
use Rattle.room_command.specs.declared.reply.Reply.{Reply}
use Rattle.save_session.specs.Sessions.{SessionView}
use Rattle.room_effects.specs.View.{RoomView}
use Rattle.room_effects.specs.Effects.{Enter, TurnOver}
use Rattle.room_between.specs.Quiet.{IsQuietPlan, LeavesOpen}
use Rattle.room_effects.specs.Entering.{ceiling, entering, is_at_ceiling}
use Rattle.room_effects.specs.Plans.{Do, Refuse}

-- whether a number is left, and whether a file of the journal is open
module _ (m : Moment) (change : Change) (reply : Reply) (sessions : List SessionView) (leaves : LeavesOpen change sessions) (snapshot : List ℕ) where
  quiet_case : (at file : Bool) → IsQuietPlan sessions
      (if at then Refuse (TooMany ceiling) else Do ([] ++ (if file then (Enter m change ∷ []) else (TurnOver snapshot ∷ (Enter m change ∷ [])))) reply)
  quiet_case true file = tt
  quiet_case false true = (leaves, tt)
  quiet_case false false = (tt, (leaves, tt))

pub entering_is_quiet : (m : Moment) (change : Change) (reply : Reply) (room : RoomView) → LeavesOpen change room.sessions
    → IsQuietPlan room.sessions (entering [] (Enter m change ∷ []) reply room)
entering_is_quiet m change reply room leaves =
    quiet_case m change reply room.sessions leaves (snapshot_text true (catalogue_of room.catalogue)) (is_at_ceiling room.catalogue) (is_some room.journal.current)
