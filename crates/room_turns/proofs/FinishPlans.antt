-- The plan of finishing a save.
use Rattle.std.proofs.Common.{ℕ, zero, suc, true, List, [], ◌∷◌, ◌++◌, length, arith}
use Rattle.std.proofs.lemmas.Bool.{cond_both}
use Rattle.std.specs.Prelude.{None, Ok, Option, Result, Some, nat_le, ◌==◌}
use Rattle.room_base.specs.declared.numbers.Moment.{Moment}
use Rattle.room_base.specs.declared.numbers.Ssid.{Ssid}
use Rattle.room_base.specs.declared.refusal.Refusal.{Refusal}
use Rattle.room_base.specs.declared.refusal.Refusal.TheVariants as refusals
use Rattle.save_stream.specs.declared.entry.IndexEntry.{IndexEntry}
use Rattle.media_db.specs.Rows.{find_record}
use Rattle.media_db.specs.declared.records.Record.{Record}
use Rattle.save_session.specs.Sessions.{SessionView, find_session}
use Rattle.slot_changer.specs.Drives.{holds_set}
use Rattle.cat_journal.specs.Journal.{form_of}
use Rattle.catalog_spelling.specs.Snapshots.{snapshot_text}
use Rattle.room_catalog.specs.Held.{catalogue_of}
use Rattle.room_command.specs.declared.answer.Answer.{Answer}
use Rattle.room_command.specs.declared.answer.Answer.TheVariants as answers
use Rattle.room_effects.specs.View.{RoomView, held_in}
use Rattle.room_effects.specs.Effects.{Close, Commit, Effect, Enter, EnterPart, TurnOver}
use Rattle.room_effects.specs.Running.{nothing_known}
use Rattle.room_effects.specs.Checked.{behind_check, unless}
use Rattle.room_effects.specs.Entering.{ceiling, is_at_ceiling}
use Rattle.room_effects.specs.Plans.{Do, Plan, Refuse}
use Rattle.sha2.specs.Sha256.{sha256}
use Rattle.catalog_change.specs.Changes.{max_part}
use Rattle.save_finish.specs.Ending.{commit_of, commits_to, ending, entering_end, entering_parts, finished_parts, finished_whole, part_count, part_of, parts_to, second_form}
use Rattle.save_finish.specs.Finishing.{ending_plan, finish_plan, finished, finished_again, is_complete, is_same, kept_checks, plan_for, row_again, session_checks, size_behind_head}
use Rattle.room_turns.specs.Orderly.{IsOrderly}
use Rattle.room_turns.proofs.Orderly.{NoFaultIn, no_fault_behind, no_fault_unless, orderly_checked}
use Rattle.room_turns.proofs.Plain.{IsPlainWith, both_plain, plain_orderly}
use Rattle.room_turns.proofs.Placed.{answered}

kept_fine : (kept_size : ℕ) (kept_digest : List ℕ) (size : ℕ) (digest : List ℕ) → NoFaultIn {X = Unit {0}} (kept_checks kept_size kept_digest size digest)
kept_fine kept_size kept_digest size digest =
    let digests = unless {X = Unit {0}} (is_same digest kept_digest) (refusals.WrongDigest kept_digest) (Ok tt) in
    no_fault_unless {X = Unit {0}} (size == kept_size) (refusals.WrongLength kept_size) digests tt
    (no_fault_unless {X = Unit {0}} (is_same digest kept_digest) (refusals.WrongDigest kept_digest) (Ok tt) tt tt)

row_fine : (ssid : Ssid) (size : ℕ) (digest : List ℕ) (row : Record) → NoFaultIn {X = Answer} (row_again ssid size digest row)
row_fine ssid size digest row =
    let kept = kept_checks (size_behind_head row) row.digest size digest in
    let again : Unit {0} → Result Answer Refusal = λ done. Ok (answers.Finished row.bytes row.files ssid) in
    no_fault_unless {X = Answer} (is_complete row.state) (refusals.NotOpen ssid) (behind_check {X = Unit {0}} {Y = Answer} kept again) tt
    (no_fault_behind {X = Unit {0}} {Y = Answer} kept again (kept_fine (size_behind_head row) row.digest size digest) (λ done. tt))

again_fine : (ssid : Ssid) (size : ℕ) (digest : List ℕ) (row : Option Record) → NoFaultIn {X = Answer} (finished_again ssid size digest row)
again_fine ssid size digest None = tt
again_fine ssid size digest (Some row) = row_fine ssid size digest row

session_fine : (size : ℕ) (digest : List ℕ) (session : SessionView) → NoFaultIn {X = Unit {0}} (session_checks size digest session)
session_fine size digest session =
    no_fault_unless {X = Unit {0}} session.reading.ended (refusals.NotEnded (length session.sent)) (kept_checks (length session.sent) (sha256 session.sent) size digest) tt
    (kept_fine (length session.sent) (sha256 session.sent) size digest)

commit_plain : (drive ssid : ℕ) (room : RoomView) → IsPlainWith 0 (commit_of drive ssid room)
commit_plain drive ssid room =
    cond_both (holds_set (held_in room drive) ssid) (Commit drive (Some ssid) ∷ []) [] (λ (list : List Effect). IsPlainWith 0 list)
    (λ holds. record { plain = (tt, tt); entries = omega arith }) (λ none. record { plain = tt; entries = omega arith })

commits_plain : (count ssid : ℕ) (room : RoomView) → IsPlainWith 0 (commits_to count ssid room)
commits_plain zero ssid room = record { plain = tt; entries = omega arith }
commits_plain (suc drive) ssid room = both_plain 0 0 (commits_to drive ssid room) (commit_of (suc drive) ssid room) (commits_plain drive ssid room) (commit_plain (suc drive) ssid room)

parts_plain : (count : ℕ) (m : Moment) (ssid : Ssid) (index : List IndexEntry) → IsPlainWith 0 (parts_to count m ssid index)
parts_plain zero m ssid index = record { plain = tt; entries = omega arith }
parts_plain (suc part) m ssid index =
    both_plain 0 0 (parts_to part m ssid index) (EnterPart m ssid part (part_of part index) ∷ []) (parts_plain part m ssid index)
    (record { plain = (tt, tt); entries = omega arith })

form_plain : (room : RoomView) → IsPlainWith 0 (second_form room)
form_plain room =
    cond_both (form_of room.journal.current == 1) (TurnOver (snapshot_text true (catalogue_of room.catalogue)) ∷ []) [] (λ (list : List Effect). IsPlainWith 0 list)
    (λ first. record { plain = (tt, tt); entries = omega arith }) (λ second. record { plain = tt; entries = omega arith })

end_plain : (m : Moment) (ssid : Ssid) (session : SessionView) (room : RoomView) → IsPlainWith 1 (entering_end m ssid session room)
end_plain m ssid session room =
    let index = session.reading.entries in
    let parts = parts_to (part_count (length index)) m ssid index in
    cond_both (nat_le (length index) max_part) (Enter m (finished_whole ssid session) ∷ []) (entering_parts m ssid session room) (λ (list : List Effect). IsPlainWith 1 list)
    (λ few. record { plain = (tt, tt); entries = omega arith })
    (λ many. both_plain 0 1 (second_form room) (parts ++ Enter m (finished_parts ssid session) ∷ []) (form_plain room)
    (both_plain 0 1 parts (Enter m (finished_parts ssid session) ∷ []) (parts_plain (part_count (length index)) m ssid index)
    (record { plain = (tt, tt); entries = omega arith })))

ending_plain : (m : Moment) (ssid : Ssid) (session : SessionView) (room : RoomView) → IsPlainWith 2 (ending m ssid session room)
ending_plain m ssid session room =
    let end = end_plain m ssid session room in
    let all = both_plain 0 1 (commits_to 4 ssid.0 room) (Close ssid.0 ∷ entering_end m ssid session room) (commits_plain 4 ssid.0 room)
    (record { plain = (tt, end.plain); entries = end.entries }) in
    record { plain = all.plain; entries = omega (arith, all.entries) }

ending_orderly : (m : Moment) (ssid : Ssid) (session : SessionView) (room : RoomView) → IsOrderly nothing_known (ending_plan m ssid session room) room
ending_orderly m ssid session room =
    cond_both (is_at_ceiling room.catalogue) (Refuse (refusals.TooMany ceiling)) (Do (ending m ssid session room) (finished ssid session))
    (λ (plan : Plan). IsOrderly nothing_known plan room) (λ full. tt)
    (λ left. plain_orderly nothing_known (ending m ssid session room) (answers.Finished session.reading.read (length session.reading.entries) ssid) room
    (ending_plain m ssid session room))

pub finish_orderly : (m : Moment) (ssid : Ssid) (size : ℕ) (digest : List ℕ) (room : RoomView) → IsOrderly nothing_known (finish_plan m ssid size digest room) room
finish_orderly m ssid size digest room = by (find_session ssid.0 room.sessions)
  where
    by : (session : Option SessionView) → IsOrderly nothing_known (plan_for m ssid size digest room session) room
    by None =
        let row = find_record ssid.0 room.catalogue.records in
        orderly_checked {X = Answer} nothing_known (finished_again ssid size digest row) _ room (again_fine ssid size digest row) (λ answer. answered answer room)
    by (Some session) =
        orderly_checked {X = Unit {0}} nothing_known (session_checks size digest session) _ room (session_fine size digest session) (λ done. ending_orderly m ssid session room)
