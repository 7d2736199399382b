-- The plan of sending a piece.
use Rattle.std.proofs.Common.{ℕ, ◌+◌, Bool, true, false, List, [], ◌∷◌, length, arith}
use Rattle.std.specs.Prelude.{None, Ok, Err, Option, Result, Some, MatchBool, nat_le}
use Rattle.room_base.specs.declared.numbers.Ssid.{Ssid}
use Rattle.room_base.specs.declared.refusal.Refusal.TheVariants as refusals
use Rattle.save_stream.specs.Reading.{Reading, reads}
use Rattle.save_stream.specs.Spelling.{head_text, max_size}
use Rattle.save_stream.specs.declared.fault.StreamFault.{StreamFault}
use Rattle.save_stream.specs.declared.fault.StreamFault.TheVariants as faults
use Rattle.save_session.specs.Sessions.{SessionView, check_sent, find_session}
use Rattle.save_session.specs.declared.checked.Checked.{Checked}
use Rattle.save_session.specs.declared.checked.Checked.TheVariants as checks
use Rattle.room_command.specs.declared.answer.Answer.TheVariants as answers
use Rattle.room_command.specs.declared.reply.Reply.TheVariants as replies
use Rattle.room_effects.specs.View.{RoomView}
use Rattle.room_effects.specs.Effects.{Take}
use Rattle.room_effects.specs.Running.{nothing_known}
use Rattle.room_effects.specs.Plans.{Do, Plan, Refuse}
use Rattle.room_placing.specs.Placing.{placing}
use Rattle.save_append.specs.Appending.{IsAppendPlan, IsNewPlan, IsSentPlan, IsSessionPlan, bad_piece, judged, max_piece, on_drive, taking}
use Rattle.room_turns.specs.Orderly.{IsNoFault, IsOrderly}
use Rattle.room_turns.proofs.Plain.{IsPlainWith, plain_orderly}
use Rattle.room_turns.proofs.Placed.{answered, placing_plain, same_plan}

piece_fine : (head : ℕ) (fault : StreamFault) → IsNoFault (bad_piece head fault)
piece_fine head (faults.Bad offset) = tt
piece_fine head (faults.TooMany limit) = tt
piece_fine head faults.Memory = tt

judged_orderly : (reads : Result Reading StreamFault) (head : ℕ) (plan : Plan) (room : RoomView) → IsOrderly nothing_known plan room
    → IsOrderly nothing_known (judged reads head plan) room
judged_orderly (Ok reading) head plan room orderly = orderly
judged_orderly (Err fault) head plan room orderly = piece_fine head fault

taking_plain : (drive ssid offset : ℕ) (piece : List ℕ) (room : RoomView) → IsPlainWith 2 (Take ssid piece ∷ placing drive ssid offset piece room)
taking_plain drive ssid offset piece room =
    let rest = placing_plain drive ssid offset piece room in
    record { plain = (tt, rest.plain); entries = omega (arith, rest.entries) }

drive_orderly : (drive : Option ℕ) (ssid : ℕ) (piece : List ℕ) (session : SessionView) (room : RoomView) → IsOrderly nothing_known (on_drive drive ssid piece session room) room
drive_orderly None ssid piece session room = tt
drive_orderly (Some drive) ssid piece session room =
    judged_orderly (reads session.reading piece) (length (head_text session.head)) (taking drive ssid piece session room) room
    (plain_orderly nothing_known (Take ssid piece ∷ placing drive ssid session.reading.read piece room) (answers.Next (length session.sent + length piece)) room
    (taking_plain drive ssid session.reading.read piece room))

-- by a test
by_match : (test : Bool) (A B C : Type 0) → MatchBool test A B → (A → C) → (B → C) → C
by_match true A B C is first second = first is
by_match false A B C is first second = second is

new_orderly : (ssid : ℕ) (piece : List ℕ) (session : SessionView) (room : RoomView) (plan : Plan) → IsNewPlan ssid piece session room plan → IsOrderly nothing_known plan room
new_orderly ssid piece session room plan is =
    by_match (nat_le (session.reading.read + length piece) max_size) _ _ (IsOrderly nothing_known plan room) is
    (λ long. same_plan room plan (on_drive long.0 ssid piece session room) long.2 (drive_orderly long.0 ssid piece session room))
    (λ refused. same_plan room plan (Refuse (refusals.TooMany max_size)) refused tt)

sent_orderly : (checked : Checked) (ssid : Ssid) (piece : List ℕ) (session : SessionView) (room : RoomView) (plan : Plan) → IsSentPlan checked ssid piece session room plan
    → IsOrderly nothing_known plan room
sent_orderly checks.NotOpen ssid piece session room plan is = same_plan room plan (Refuse (refusals.NotOpen ssid)) is tt
sent_orderly (checks.Repeat next) ssid piece session room plan is = same_plan room plan (Do [] (replies.Done (answers.Next next))) is (answered (answers.Next next) room)
sent_orderly (checks.Gap expected) ssid piece session room plan is = same_plan room plan (Refuse (refusals.Gap expected)) is tt
sent_orderly checks.New ssid piece session room plan is = new_orderly ssid.0 piece session room plan is

pub append_orderly : (ssid : Ssid) (offset : ℕ) (piece : List ℕ) (room : RoomView) (plan : Plan) → IsAppendPlan ssid offset piece room plan → IsOrderly nothing_known plan room
append_orderly ssid offset piece room plan is = by (find_session ssid.0 room.sessions) is
  where
    by : (session : Option SessionView) → IsSessionPlan session ssid offset piece room plan → IsOrderly nothing_known plan room
    by None none = same_plan room plan (Refuse (refusals.NotOpen ssid)) none tt
    by (Some session) planned =
        by_match (nat_le (length piece) max_piece) _ _ (IsOrderly nothing_known plan room) planned
        (λ short. sent_orderly (check_sent (length session.sent) offset (length piece)) ssid piece session room plan short)
        (λ long. same_plan room plan (Refuse (refusals.PieceTooLong max_piece)) long tt)
