-- The plan of finishing a save.
use Rattle.std.specs.Prelude.{ℕ, ◌-◌, ◌==◌, nat_eq, Bool, true, false, List, [], length}
use Rattle.std.specs.Prelude.{Option, Some, None, Result, Ok, Err, if◌then◌else◌}
use Rattle.std.specs.Cmp.Lexicographic.{pointwise}
use Rattle.sha2.specs.Sha256.{sha256}
use Rattle.room_base.specs.declared.numbers.Moment.{Moment}
use Rattle.room_base.specs.declared.numbers.Ssid.{Ssid}
use Rattle.room_base.specs.declared.refusal.Refusal.{Refusal}
use Rattle.room_base.specs.declared.refusal.Refusal.TheVariants.{
  NotEnded,
  NotOpen,
  TooMany,
  WrongDigest,
  WrongLength,
}
use Rattle.save_stream.specs.Spelling.{head_text}
use Rattle.media_db.specs.Rows.{find_record}
use Rattle.media_db.specs.Streams.{head_of}
use Rattle.media_db.specs.declared.records.Record.{Record}
use Rattle.media_db.specs.declared.records.RecordState.{RecordState}
use Rattle.media_db.specs.declared.records.RecordState.TheVariants as states
use Rattle.save_session.specs.Sessions.{SessionView, find_session}
use Rattle.room_command.specs.declared.answer.Answer.{Answer}
use Rattle.room_command.specs.declared.answer.Answer.TheVariants.{Finished}
use Rattle.room_command.specs.declared.reply.Reply.{Reply}
use Rattle.room_command.specs.declared.reply.Reply.TheVariants.{Done}
use Rattle.room_effects.specs.View.{RoomView}
use Rattle.room_effects.specs.Checked.{behind_check, checked, unless}
use Rattle.room_effects.specs.Entering.{ceiling, is_at_ceiling}
use Rattle.room_effects.specs.Plans.{Plan, Do, Refuse}
use Rattle.save_finish.specs.Ending.{ending}

-- ---- what is compared

-- two digests are the same
abbrev pub is_same : List ℕ → List ℕ → Bool
is_same one other = pointwise nat_eq one other

-- The length and the digest that the sender gives of the bytes behind the head are those of what
-- was kept.
abbrev pub kept_checks : ℕ → List ℕ → ℕ → List ℕ → Result (Unit {0}) Refusal
kept_checks kept_size kept_digest size digest =
    unless (size == kept_size) (WrongLength kept_size)
    (unless (is_same digest kept_digest) (WrongDigest kept_digest) (Ok tt))

-- ---- a set without a session

abbrev pub is_complete : RecordState → Bool
is_complete states.Begun = false
is_complete states.Complete = true
is_complete states.Aborted = false

-- so many bytes of the set's stream are behind its head
abbrev pub size_behind_head : Record → ℕ
size_behind_head row = row.bytes - length (head_text (head_of row))

abbrev pub row_again : Ssid → ℕ → List ℕ → Record → Result Answer Refusal
row_again ssid size digest row =
    unless (is_complete row.state) (NotOpen ssid)
    (behind_check (kept_checks (size_behind_head row) row.digest size digest)
    (λ done. Ok (Finished row.bytes row.files ssid)))

-- a set that is complete is compared with its record, and answered as the first time
abbrev pub finished_again : Ssid → ℕ → List ℕ → Option Record → Result Answer Refusal
finished_again ssid size digest None = Err (NotOpen ssid)
finished_again ssid size digest (Some row) = row_again ssid size digest row

-- ---- a set with a session

abbrev pub session_checks : ℕ → List ℕ → SessionView → Result (Unit {0}) Refusal
session_checks size digest session =
    unless session.reading.ended (NotEnded (length session.sent))
    (kept_checks (length session.sent) (sha256 session.sent) size digest)

-- it is answered how many bytes the stream has, and how many entries
abbrev pub finished : Ssid → SessionView → Reply
finished ssid session =
    Done (Finished session.reading.read (length session.reading.entries) ssid)

-- the session ends, where a number is left for the entry
abbrev pub ending_plan : Moment → Ssid → SessionView → RoomView → Plan
ending_plan m ssid session room =
    if is_at_ceiling room.catalogue then Refuse (TooMany ceiling)
    else Do (ending m ssid session room) (finished ssid session)

abbrev pub session_plan : Moment → Ssid → ℕ → List ℕ → SessionView → RoomView → Plan
session_plan m ssid size digest session room =
    checked (session_checks size digest session) (λ done. ending_plan m ssid session room)

-- ---- the plan

abbrev pub plan_for : Moment → Ssid → ℕ → List ℕ → RoomView → Option SessionView → Plan
plan_for m ssid size digest room None =
    checked (finished_again ssid size digest (find_record ssid.0 room.catalogue.records))
    (λ answer. Do [] (Done answer))
plan_for m ssid size digest room (Some session) =
    session_plan m ssid size digest session room

abbrev pub finish_plan : Moment → Ssid → ℕ → List ℕ → RoomView → Plan
finish_plan m ssid size digest room =
    plan_for m ssid size digest room (find_session ssid.0 room.sessions)
