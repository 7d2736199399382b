-- A call whose plan has no effects keeps the room and the disk.
use Rattle.std.proofs.Common.{◌≡◌, ◌⊎◌, ℕ, ◌+◌, ◌≤◌, ◌==◌, Bool, true, ◌&&◌, List, [], ◌∷◌, rules, refl, sym, ap, ◌∙◌, subst, inl, inr, length}
use Rattle.std.proofs.lemmas.Bool.{cond-true}
use Rattle.std.proofs.lemmas.Bool.Decides.{eqb_tells}
use Rattle.std.specs.Prelude.{Option, Some, None, Result, Ok, Err}
use Rattle.room_base.specs.Outside.{Told}
use Rattle.room_base.specs.declared.numbers.Moment.{Moment}
use Rattle.room_base.specs.declared.numbers.Ssid.{Ssid}
use Rattle.room_base.specs.declared.refusal.Refusal.{Refusal}
use Rattle.room_base.specs.declared.refusal.Refusal.TheVariants.{NoMemory, NotOpen}
use Rattle.room_disk.specs.Disk.{DiskView, IsDisk, Quiet}
use Rattle.room_command.specs.declared.answer.Answer.TheVariants.{Finished, Next}
use Rattle.room_command.specs.declared.answer.Answer.{Answer}
use Rattle.room_command.specs.declared.command.Command.TheVariants as commands
use Rattle.room_command.specs.declared.reply.Reply.{Reply}
use Rattle.room_command.specs.declared.reply.Reply.TheVariants as replies
use Rattle.media_db.specs.Rows.{find_record}
use Rattle.media_db.specs.declared.records.Record.{Record}
use Rattle.media_db.specs.declared.records.RecordState.TheVariants as states
use Rattle.save_session.specs.Sessions.{SessionView, find_session}
use Rattle.room_effects.specs.View.{RoomView}
use Rattle.room_effects.specs.Effects.{Broken, Deed, Done, Effect}
use Rattle.room_effects.specs.Running.{AreLooks, RanTo, Ready, nothing_known}
use Rattle.room_effects.specs.Plans.{Do, IsTurn, Plan}
use Rattle.room_effects.specs.Checked.{behind_check, checked, unless}
use Rattle.save_finish.specs.Finishing.{finish_plan, finished_again, is_complete, is_same, kept_checks, plan_for, row_again, size_behind_head}
use Rattle.save_append.specs.Appending.{IsAppendPlan, max_piece}
use Rattle.room_turns.specs.Calls.{AnswersIdly}
use Rattle.room_turns.specs.Steps.{Call, Turn}
use Rattle.room_turns.proofs.Refusing.{kept_disk, kept_room}

nothing_ran : (room : RoomView) (deeds : List Deed) → RanTo {T = Unit {0}} [] room (Ok tt) deeds → AreLooks deeds
nothing_ran room [] ran = tt
nothing_ran room (Done effect ∷ deeds) ran = absurd ran
nothing_ran room (Broken effect ∷ deeds) ran = absurd ran

nothing_broke : (fault : Refusal) (room : RoomView) (deeds : List Deed) → RanTo {T = Unit {0}} [] room (Err fault) deeds → ⊥
nothing_broke fault room [] ran = ran
nothing_broke fault room (Done effect ∷ deeds) ran = ran
nothing_broke fault room (Broken effect ∷ deeds) ran = ran

-- what is answered where nothing is to be done, and what was done for it
pub record IsIdle (reply answer : Reply) (deeds : List Deed) : Type 0 where
  pub answered : (answer ≡ reply) ⊎ (answer ≡ replies.Refused NoMemory)
  pub looks : AreLooks deeds

idle_turn : (reply answer : Reply) (room : RoomView) (deeds : List Deed) → IsTurn (Do [] reply) room answer deeds → IsIdle reply answer deeds
idle_turn reply answer room deeds (inl done) = record { answered = inl done.0; looks = nothing_ran room deeds done.1 }
idle_turn reply answer room deeds (inr (inl broke)) = absurd (nothing_broke broke.0 room deeds broke.2)
idle_turn reply answer room deeds (inr (inr none)) = record { answered = inr none.0; looks = none.1 }

repeat_plan : (ssid : Ssid) (offset : ℕ) (piece : List ℕ) (session : SessionView) (room : RoomView) (plan : Plan) → find_session ssid.0 room.sessions ≡ Some session
    → length piece ≤ max_piece → offset + length piece ≤ length session.sent → IsAppendPlan ssid offset piece room plan
    → plan ≡ Do [] (replies.Done (Next (length session.sent)))
repeat_plan ssid offset piece session room plan found short sent is = search (rules, found, short, sent, is)

pub repeated_piece : (clock : ℕ) (ssid : Ssid) (offset : ℕ) (piece : List ℕ) (session : SessionView) (reply : Reply) (old new : RoomView) (before now : DiskView)
    → IsDisk before → IsDisk now → find_session ssid.0 old.sessions ≡ Some session → length piece ≤ max_piece → offset + length piece ≤ length session.sent
    → Turn (record { clock = clock; command = commands.Append ssid offset piece; reply = reply }) old new before now
    → AnswersIdly (replies.Done (Next (length session.sent))) reply old new before now
repeated_piece clock ssid offset piece session reply old new before now is_before is_now found short sent turn =
    let call : Call = record { clock = clock; command = commands.Append ssid offset piece; reply = reply } in
    let planned = repeat_plan ssid offset piece session old turn.answered.0 found short sent turn.answered.1 in
    let P : Plan → Type 0 = λ plan. IsTurn plan old reply turn.deeds in
    let idle = idle_turn (replies.Done (Next (length session.sent))) reply old turn.deeds (subst P planned turn.answered.2) in
    record {
      answered = idle.answered;
      room = kept_room call old new turn.deeds turn.answered idle.looks before now turn.performed;
      disk = kept_disk call old new turn.deeds turn.answered idle.looks before now is_before is_now turn.performed;
    }

-- ---- a save that is finished again

same_number : (n : ℕ) → (n == n) ≡ true
same_number n = elim (eqb_tells n n) [
  | inl is ↦ is.0
  | inr not ↦ absurd (not.1 refl)
]

same_digest : (digest : List ℕ) → is_same digest digest ≡ true
same_digest [] = refl
same_digest (one ∷ more) = ap (λ (here : Bool). here && is_same more more) (same_number one) ∙ same_digest more

kept_fine : (size : ℕ) (digest : List ℕ) → kept_checks size digest size digest ≡ Ok tt
kept_fine size digest =
    cond-true (size == size) _ _ (same_number size) ∙ cond-true (is_same digest digest) _ _ (same_digest digest)

row_fine : (ssid : Ssid) (row : Record) → row.state ≡ states.Complete → row_again ssid (size_behind_head row) row.digest row ≡ Ok (Finished row.bytes row.files ssid)
row_fine ssid row complete =
    let C : Bool → Type 0 = λ fits. unless fits (NotOpen ssid)
    (behind_check (kept_checks (size_behind_head row) row.digest (size_behind_head row) row.digest) (λ done. Ok (Finished row.bytes row.files ssid)))
    ≡ Ok (Finished row.bytes row.files ssid) in
    subst C (sym (ap is_complete complete))
    (ap (λ (checks : Result (Unit {0}) Refusal). behind_check {X = Unit {0}} {Y = Answer} checks (λ done. Ok (Finished row.bytes row.files ssid)))
    (kept_fine (size_behind_head row) row.digest))

again_plan : (m : Moment) (ssid : Ssid) (row : Record) (room : RoomView) → find_session ssid.0 room.sessions ≡ None → find_record ssid.0 room.catalogue.records ≡ Some row
    → row.state ≡ states.Complete → finish_plan m ssid (size_behind_head row) row.digest room ≡ Do [] (replies.Done (Finished row.bytes row.files ssid))
again_plan m ssid row room none found complete =
    ap (plan_for m ssid (size_behind_head row) row.digest room) none
    ∙ ap (λ (record_of : Option Record). checked {X = Answer} (finished_again ssid (size_behind_head row) row.digest record_of) (λ answer. Do [] (replies.Done answer))) found
    ∙ ap (λ (checks : Result Answer Refusal). checked {X = Answer} checks (λ answer. Do [] (replies.Done answer))) (row_fine ssid row complete)

pub finished_call : (clock : ℕ) (ssid : Ssid) (row : Record) (reply : Reply) (old new : RoomView) (before now : DiskView) → IsDisk before → IsDisk now
    → find_session ssid.0 old.sessions ≡ None → find_record ssid.0 old.catalogue.records ≡ Some row → row.state ≡ states.Complete
    → Turn (record { clock = clock; command = commands.Finish ssid (size_behind_head row) row.digest; reply = reply }) old new before now
    → AnswersIdly (replies.Done (Finished row.bytes row.files ssid)) reply old new before now
finished_call clock ssid row reply old new before now is_before is_now none found complete turn =
    let call : Call = record { clock = clock; command = commands.Finish ssid (size_behind_head row) row.digest; reply = reply } in
    let P : Plan → Type 0 = λ plan. IsTurn plan old reply turn.deeds in
    let planned = turn.answered.1 ∙ again_plan _ ssid row old none found complete in
    let idle = idle_turn (replies.Done (Finished row.bytes row.files ssid)) reply old turn.deeds (subst P planned turn.answered.2) in
    record {
      answered = idle.answered;
      room = kept_room call old new turn.deeds turn.answered idle.looks before now turn.performed;
      disk = kept_disk call old new turn.deeds turn.answered idle.looks before now is_before is_now turn.performed;
    }
