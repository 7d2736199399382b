-- The plan of giving up the indexes of save sets.
use Rattle.std.specs.Prelude.{◌≡◌, not, Bool, false, List, [], ◌∷◌, filter}
use Rattle.std.specs.Prelude.{Option, Some, None, IfSome}
use Rattle.room_base.specs.declared.numbers.Moment.{Moment}
use Rattle.room_base.specs.declared.numbers.Ssid.{Ssid}
use Rattle.media_db.specs.Rows.{find_record}
use Rattle.media_db.specs.declared.records.Record.{Record}
use Rattle.catalog_change.specs.declared.change.Change.TheVariants as changes
use Rattle.dep_chain.specs.Purging.{AreThePurgeable}
use Rattle.room_checks.specs.OpenSets.{open_sets}
use Rattle.room_command.specs.declared.answer.Answer.TheVariants.{Purged}
use Rattle.room_command.specs.declared.reply.Reply.TheVariants.{Done}
use Rattle.room_effects.specs.View.{RoomView}
use Rattle.room_effects.specs.Effects.{Enter}
use Rattle.room_effects.specs.Checked.{checked}
use Rattle.room_effects.specs.Entering.{entering}
use Rattle.room_effects.specs.Plans.{Plan, Do}
use Rattle.room_records.specs.Deleting.{known}

-- its index isn't given up yet
abbrev pub has_index : Option Record → Bool
has_index None = false
has_index (Some row) = not row.purged

abbrev pub is_unpurged : List Record → Ssid → Bool
is_unpurged rows ssid = has_index (find_record ssid.0 rows)

-- of the sets that can be purged, which ascend, those that aren't yet
pub record AreToPurge (m : Moment) (room : RoomView) (ssids : List Ssid) : Type 0 where
  pub purgeable : List Ssid
  pub are : AreThePurgeable room.catalogue.records (open_sets room) m.0 purgeable
  pub is : ssids ≡ filter (is_unpurged room.catalogue.records) purgeable

-- Their indexes are given up. Where there is no such set nothing is entered, so that it isn't
-- refused where no number is left.
abbrev pub purging : Moment → List Ssid → RoomView → Plan
purging m [] room = Do [] (Done (Purged []))
purging m (ssid ∷ ssids) room = entering [] (Enter m (changes.Purged (ssid ∷ ssids)) ∷ [])
    (Done (Purged (ssid ∷ ssids))) room

-- the plan for the answer to which sets can be purged
pub record IsNsrimPlan (m : Moment) (room : RoomView) (plan : Plan) : Type 0 where
  pub asked : Option (List Ssid)
  pub answer : IfSome asked (AreToPurge m room)
  pub is : plan ≡ checked (known asked) (λ ssids. purging m ssids room)
