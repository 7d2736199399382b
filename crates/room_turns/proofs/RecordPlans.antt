-- The plans of commands on records.
use Rattle.std.proofs.Common.{ℕ, Bool, List, [], ◌∷◌, not, arith}
use Rattle.std.specs.Prelude.{None, Ok, Option, Some, codes, decimal, nat_le}
use Rattle.room_base.specs.declared.numbers.Moment.{Moment}
use Rattle.room_base.specs.declared.numbers.Ssid.{Ssid}
use Rattle.room_base.specs.declared.refusal.Refusal.TheVariants as refusals
use Rattle.media_db.specs.Rows.{find_record}
use Rattle.media_db.specs.declared.records.Record.{Record}
use Rattle.catalog_change.specs.declared.change.Change.TheVariants as changes
use Rattle.room_command.specs.declared.answer.Answer.TheVariants as answers
use Rattle.room_effects.specs.View.{RoomView}
use Rattle.room_effects.specs.Effects.{Enter}
use Rattle.room_effects.specs.Running.{nothing_known}
use Rattle.room_effects.specs.Checked.{unless}
use Rattle.room_effects.specs.Plans.{Plan}
use Rattle.room_records.specs.Amending.{amend_checks, amend_plan, amended_as, in_order, is_moment}
use Rattle.room_records.specs.Deleting.{IsDeletePlan, delete_checks, is_on_record, is_open, known, no_user, unused}
use Rattle.room_records.specs.Purging.{IsNsrimPlan, purging}
use Rattle.room_records.specs.Showing.{on_record, record_of, show_plan}
use Rattle.room_turns.specs.Orderly.{IsOrderly}
use Rattle.room_turns.proofs.Placed.{same_plan}
use Rattle.room_turns.proofs.Orderly.{NoFaultIn, no_fault_behind, no_fault_unless, orderly_checked, orderly_entering}

row_fine : (ssid : Ssid) (row : Option Record) → NoFaultIn {X = Record} (on_record ssid row)
row_fine ssid None = tt
row_fine ssid (Some row) = tt

pub show_orderly : (ssid : Ssid) (room : RoomView) → IsOrderly nothing_known (show_plan ssid room) room
show_orderly ssid room =
    orderly_checked {X = Record} nothing_known (record_of ssid room) _ room (row_fine ssid (find_record ssid.0 room.catalogue.records))
    (λ row. record { founded = tt; few = omega arith; replied = tt })

amend_fine : (ssid : Ssid) (browse retain : Option ℕ) (hold : Option Bool) (room : RoomView) → NoFaultIn (amend_checks ssid browse retain hold room)
amend_fine ssid browse retain hold room =
    no_fault_unless (is_moment browse) (refusals.Malformed (codes "browse")) _ tt
    (no_fault_unless (is_moment retain) (refusals.Malformed (codes "retain")) _ tt
    (no_fault_behind (record_of ssid room) (λ row. in_order (amended_as browse retain hold row)) (row_fine ssid (find_record ssid.0 room.catalogue.records))
    (λ one. (let amended = amended_as browse retain hold one in
    no_fault_unless (nat_le amended.browse.0 amended.retain.0) (refusals.Malformed (codes "retain")) (Ok amended) tt tt))))

pub amend_orderly : (m : Moment) (ssid : Ssid) (browse retain : Option ℕ) (hold : Option Bool) (room : RoomView) → IsOrderly nothing_known (amend_plan m ssid browse retain hold room) room
amend_orderly m ssid browse retain hold room =
    orderly_checked nothing_known (amend_checks ssid browse retain hold room) _ room (amend_fine ssid browse retain hold room)
    (λ amended. orderly_entering nothing_known (Enter m (changes.Amended ssid amended.browse amended.retain amended.hold) ∷ []) answers.Empty room
    (λ one. (tt, tt)) (omega arith))

unused_fine : (user : Option Ssid) → NoFaultIn {X = Unit {0}} (unused user)
unused_fine None = tt
unused_fine (Some user) = tt

known_fine : {X : Type 0} (asked : Option X) → NoFaultIn {X = X} (known {X = X} asked)
known_fine None = tt
known_fine (Some answer) = tt

delete_fine : (ssid : Ssid) (asked : Option (Option Ssid)) (room : RoomView) → NoFaultIn {X = Unit {0}} (delete_checks ssid asked room)
delete_fine ssid asked room =
    let free = unless {X = Unit {0}} (not (is_open ssid room)) (refusals.SetBusy ssid) (no_user asked) in
    no_fault_unless {X = Unit {0}} (is_on_record ssid room) (refusals.NoSuch (codes "set") (decimal ssid.0)) free tt
    (no_fault_unless {X = Unit {0}} (not (is_open ssid room)) (refusals.SetBusy ssid) (no_user asked) tt
    (no_fault_behind {X = Option Ssid} {Y = Unit {0}} (known {X = Option Ssid} asked) unused (known_fine {X = Option Ssid} asked) unused_fine))

pub delete_orderly : (m : Moment) (ssid : Ssid) (room : RoomView) (plan : Plan) → IsDeletePlan m ssid room plan → IsOrderly nothing_known plan room
delete_orderly m ssid room plan is =
    same_plan room plan _ is.is
    (orderly_checked {X = Unit {0}} nothing_known (delete_checks ssid is.asked room) _ room (delete_fine ssid is.asked room)
    (λ done. orderly_entering nothing_known (Enter m (changes.Deleted ssid) ∷ []) answers.Empty room (λ one. (tt, tt)) (omega arith)))

purging_orderly : (m : Moment) (ssids : List Ssid) (room : RoomView) → IsOrderly nothing_known (purging m ssids room) room
purging_orderly m [] room = record { founded = tt; few = omega arith; replied = tt }
purging_orderly m (ssid ∷ ssids) room =
    orderly_entering nothing_known (Enter m (changes.Purged (ssid ∷ ssids)) ∷ []) (answers.Purged (ssid ∷ ssids)) room (λ one. (tt, tt)) (omega arith)

pub nsrim_orderly : (m : Moment) (room : RoomView) (plan : Plan) → IsNsrimPlan m room plan → IsOrderly nothing_known plan room
nsrim_orderly m room plan is =
    same_plan room plan _ is.is
    (orderly_checked {X = List Ssid} nothing_known (known {X = List Ssid} is.asked) _ room (known_fine {X = List Ssid} is.asked) (λ ssids. purging_orderly m ssids room))
