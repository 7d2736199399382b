-- The plans of beginning a save, of giving one up, and of what a group saves.
use Rattle.std.proofs.Common.{◌≡◌, ℕ, List, [], ◌∷◌, length, not, arith}
use Rattle.std.proofs.lemmas.Bool.{cond_both}
use Rattle.std.specs.Option.{is_some}
use Rattle.std.specs.Prelude.{None, Ok, Err, Option, Result, Some, MatchOption, MatchResult, codes, nat_lt, ◌==◌}
use Rattle.room_base.specs.declared.numbers.Moment.{Moment}
use Rattle.room_base.specs.declared.numbers.Ssid.{Ssid}
use Rattle.room_base.specs.declared.refusal.Refusal.{Refusal}
use Rattle.room_base.specs.declared.refusal.Refusal.TheVariants as refusals
use Rattle.save_stream.specs.Spelling.{head_text}
use Rattle.save_stream.specs.declared.head.SetHead.{SetHead}
use Rattle.catalog_change.specs.declared.change.Change.TheVariants as changes
use Rattle.save_session.specs.Sessions.{find_session}
use Rattle.room_command.specs.declared.answer.Answer.TheVariants as answers
use Rattle.room_effects.specs.View.{RoomView}
use Rattle.room_effects.specs.Effects.{Close, Enter, Open}
use Rattle.room_effects.specs.Running.{nothing_known}
use Rattle.room_effects.specs.Checked.{unless}
use Rattle.room_effects.specs.Entering.{ceiling, is_at_ceiling, with_first_file}
use Rattle.room_effects.specs.Plans.{Plan, Refuse}
use Rattle.room_placing.specs.Placing.{placing}
use Rattle.room_rules.specs.declared.group.Group.{Group}
use Rattle.room_rules.specs.declared.group.Planned.{Planned}
use Rattle.sched_levels.specs.Plans.{skip}
use Rattle.save_begin.specs.Aborting.{abort_checks, abort_plan}
use Rattle.save_begin.specs.Asking.{action_by, begin_checks, busy_with, client_of, count_checks, day_of, field_checks, free_checks, group_check, group_given, group_of, has_member, is_level, level_check, max_records, max_sessions, member_check, member_name, none_busy, there_checks, wanted_level}
use Rattle.save_begin.specs.Beginning.{IsBeginPlan, IsLevelPlan, begin_plan, begun_answer, chosen_plan, drive_check, entering_head}
use Rattle.save_begin.specs.Grouping.{IsGroupPlan, IsSavegrpPlan, planned_plan}
use Rattle.save_begin.specs.declared.choosing.Chosen.{Chosen}
use Rattle.save_begin.specs.declared.asked.Asked.{Asked}
use Rattle.save_begin.specs.declared.asked.Allowed.{Allowed}
use Rattle.room_turns.specs.Orderly.{IsOrderly}
use Rattle.room_turns.proofs.Orderly.{NoFaultIn, no_fault_behind, no_fault_unless, orderly_checked}
use Rattle.room_turns.proofs.Plain.{IsPlainWith, first_file_plain, plain_orderly}
use Rattle.room_turns.proofs.Placed.{answered, placing_plain, same_plan}

abort_fine : (ssid : Ssid) (room : RoomView) → NoFaultIn {X = Unit {0}} (abort_checks ssid room)
abort_fine ssid room =
    let left = unless {X = Unit {0}} (not (is_at_ceiling room.catalogue)) (refusals.TooMany ceiling) (Ok tt) in
    no_fault_unless {X = Unit {0}} (is_some (find_session ssid.0 room.sessions)) (refusals.NotOpen ssid) left tt
    (no_fault_unless {X = Unit {0}} (not (is_at_ceiling room.catalogue)) (refusals.TooMany ceiling) (Ok tt) tt tt)

pub abort_orderly : (m : Moment) (ssid : Ssid) (room : RoomView) → IsOrderly nothing_known (abort_plan m ssid room) room
abort_orderly m ssid room =
    let entry = first_file_plain 1 room (Enter m (changes.Aborted ssid) ∷ []) (record { plain = (tt, tt); entries = omega arith }) in
    orderly_checked {X = Unit {0}} nothing_known (abort_checks ssid room) _ room (abort_fine ssid room)
    (λ done. plain_orderly nothing_known (Close ssid.0 ∷ with_first_file room (Enter m (changes.Aborted ssid) ∷ [])) answers.Empty room
    (record { plain = (tt, entry.plain); entries = omega (arith, entry.entries) }))

drive_fine : (head : SetHead) (drive : Option ℕ) → NoFaultIn {X = Chosen} (drive_check head drive)
drive_fine head None = tt
drive_fine head (Some drive) = tt

head_plain : (m : Moment) (chosen : Chosen) (room : RoomView) → IsPlainWith 1 (entering_head m chosen room)
head_plain m chosen room =
    let text = head_text chosen.head in
    let rest = placing_plain chosen.drive chosen.head.ssid.0 0 text room in
    first_file_plain 1 room (Enter m (changes.Begun chosen.head) ∷ placing chosen.drive chosen.head.ssid.0 0 text room)
    (record { plain = (tt, rest.plain); entries = omega (arith, rest.entries) })

chosen_orderly : (m : Moment) (room : RoomView) (chosen : Chosen) → IsOrderly nothing_known (chosen_plan m room chosen) room
chosen_orderly m room chosen =
    let all = head_plain m chosen room in
    cond_both (is_at_ceiling room.catalogue) (Refuse (refusals.TooMany ceiling)) (begin_plan m room chosen) (λ (plan : Plan). IsOrderly nothing_known plan room) (λ full. tt)
    (λ left. plain_orderly nothing_known (Open chosen.head ∷ entering_head m chosen room) (begun_answer chosen.head) room
    (record { plain = (tt, all.plain); entries = omega (arith, all.entries) }))

field_fine : (allowed : Allowed) (asked : Asked) → NoFaultIn {X = Unit {0}} (field_checks allowed asked)
field_fine allowed asked =
    let level = unless {X = Unit {0}} (is_level asked.level asked.group) (refusals.Malformed (codes "level")) (Ok tt) in
    let group = unless {X = Unit {0}} allowed.group (refusals.Malformed (codes "group")) level in
    let set = unless {X = Unit {0}} allowed.set (refusals.Malformed (codes "set")) group in
    no_fault_unless {X = Unit {0}} allowed.client (refusals.Malformed (codes "client")) set tt
    (no_fault_unless {X = Unit {0}} allowed.set (refusals.Malformed (codes "set")) group tt
    (no_fault_unless {X = Unit {0}} allowed.group (refusals.Malformed (codes "group")) level tt
    (no_fault_unless {X = Unit {0}} (is_level asked.level asked.group) (refusals.Malformed (codes "level")) (Ok tt) tt tt)))

member_fine : (asked : Asked) (name : List ℕ) (group : Option Group) → NoFaultIn {X = Unit {0}} (member_check asked name group)
member_fine asked name None = tt
member_fine asked name (Some group) = no_fault_unless {X = Unit {0}} (has_member asked group) (refusals.NoSuch (codes "member") (member_name asked)) (Ok tt) tt tt

group_fine : (asked : Asked) (group : Option (List ℕ)) (room : RoomView) → NoFaultIn {X = Unit {0}} (group_check asked group room)
group_fine asked None room = tt
group_fine asked (Some name) room = member_fine asked name (group_of name room)

there_fine : (asked : Asked) (room : RoomView) → NoFaultIn {X = Unit {0}} (there_checks asked room)
there_fine asked room =
    no_fault_unless {X = Unit {0}} (is_some (client_of asked.client room)) (refusals.NoSuch (codes "client") asked.client) (group_check asked asked.group room) tt
    (group_fine asked asked.group room)

level_fine : (level : Option ℕ) (action day : ℕ) → NoFaultIn {X = ℕ} (wanted_level level action day)
level_fine None action day = no_fault_unless {X = ℕ} (not (action == skip)) (refusals.Skipped day) (Ok action) tt tt
level_fine (Some level) action day = tt

busy_fine : (busy : Option Ssid) → NoFaultIn {X = Unit {0}} (none_busy busy)
busy_fine None = tt
busy_fine (Some ssid) = tt

count_fine : (room : RoomView) → NoFaultIn {X = Unit {0}} (count_checks room)
count_fine room =
    let records = unless {X = Unit {0}} (nat_lt (length room.catalogue.records) max_records) (refusals.TooMany max_records) (Ok tt) in
    no_fault_unless {X = Unit {0}} (nat_lt (length room.sessions) max_sessions) (refusals.SessionsFull max_sessions) records tt
    (no_fault_unless {X = Unit {0}} (nat_lt (length room.catalogue.records) max_records) (refusals.TooMany max_records) (Ok tt) tt tt)

free_fine : (asked : Asked) (room : RoomView) → NoFaultIn {X = Unit {0}} (free_checks asked room)
free_fine asked room =
    no_fault_behind {X = Unit {0}} {Y = Unit {0}} (none_busy (busy_with asked room.sessions)) _ (busy_fine (busy_with asked room.sessions)) (λ done. count_fine room)

begin_fine : (allowed : Allowed) (m : Moment) (asked : Asked) (room : RoomView) → NoFaultIn {X = ℕ} (begin_checks allowed m asked room)
begin_fine allowed m asked room =
    no_fault_behind {X = Unit {0}} {Y = ℕ} (field_checks allowed asked) _ (field_fine allowed asked)
    (λ fields. no_fault_behind {X = Unit {0}} {Y = ℕ} (there_checks asked room) _ (there_fine asked room)
    (λ there. no_fault_behind {X = ℕ} {Y = ℕ} (level_check m asked room) _
    (level_fine asked.level (action_by (group_given asked.group room) m room) (day_of m))
    (λ level. no_fault_behind {X = Unit {0}} {Y = ℕ} (free_checks asked room) _ (free_fine asked room) (λ free. tt))))

pub begin_orderly : (m : Moment) (asked : Asked) (room : RoomView) (plan : Plan) → IsBeginPlan m asked room plan → IsOrderly nothing_known plan room
begin_orderly m asked room plan is = by (begin_checks is.allowed m asked room) (begin_fine is.allowed m asked room) is.is
  where
    by : (checks : Result ℕ Refusal) → NoFaultIn {X = ℕ} checks → MatchResult checks (IsLevelPlan m asked room plan) (λ refusal. plan ≡ Refuse refusal)
        → IsOrderly nothing_known plan room
    by (Ok wanted) fine planned =
        same_plan room plan _ planned.is
        (orderly_checked {X = Chosen} nothing_known (drive_check planned.head planned.drive) _ room (drive_fine planned.head planned.drive) (chosen_orderly m room))
    by (Err refusal) fine planned = same_plan room plan (Refuse refusal) planned fine

planned_orderly : (planned : Option (List Planned)) (room : RoomView) → IsOrderly nothing_known (planned_plan planned) room
planned_orderly None room = tt
planned_orderly (Some planned) room = answered (answers.Plan planned) room

pub savegrp_orderly : (m : Moment) (name : List ℕ) (room : RoomView) (plan : Plan) → IsSavegrpPlan m name room plan → IsOrderly nothing_known plan room
savegrp_orderly m name room plan is = by (group_of name room) is
  where
    by : (group : Option Group) → MatchOption group (plan ≡ Refuse (refusals.NoSuch (codes "group") name)) (IsGroupPlan m room plan) → IsOrderly nothing_known plan room
    by None none = same_plan room plan _ none tt
    by (Some group) planned = same_plan room plan _ planned.is (planned_orderly planned.planned room)
