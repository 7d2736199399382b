-- The plan of sending a piece of a save set.
use Rattle.std.specs.Prelude.{◌≡◌, ℕ, ◌+◌, ◌-◌, nat_le, List, [], ◌∷◌, length, MatchBool}
use Rattle.std.specs.Prelude.{Option, Some, None, Result, Ok, Err}
use Rattle.room_base.specs.declared.numbers.Ssid.{Ssid}
use Rattle.room_base.specs.declared.refusal.Refusal.{Refusal}
use Rattle.room_base.specs.declared.refusal.Refusal.TheVariants as refusals
use Rattle.save_stream.specs.declared.fault.StreamFault.{StreamFault}
use Rattle.save_stream.specs.declared.fault.StreamFault.TheVariants as faults
use Rattle.save_stream.specs.Reading.{Reading, reads}
use Rattle.save_stream.specs.Spelling.{head_text, max_size}
use Rattle.save_session.specs.declared.checked.Checked.{Checked}
use Rattle.save_session.specs.declared.checked.Checked.TheVariants as checks
use Rattle.save_session.specs.Sessions.{SessionView, check_sent, find_session}
use Rattle.room_command.specs.declared.answer.Answer.TheVariants.{Next}
use Rattle.room_command.specs.declared.reply.Reply.TheVariants.{Done}
use Rattle.room_effects.specs.View.{RoomView}
use Rattle.room_effects.specs.Effects.{Take}
use Rattle.room_effects.specs.Plans.{Plan, Refuse, Do}
use Rattle.room_placing.specs.Placing.{IsDriveFor, placing}

-- the most bytes of a piece
abbrev pub max_piece : ℕ
max_piece = 131072

-- ---- a new piece

-- The refusal of a piece that the reader doesn't take, behind a head of so many bytes. The reader
-- counts places from the beginning of the stream, and the client from the end of the head.
abbrev pub bad_piece : ℕ → StreamFault → Refusal
bad_piece head (faults.Bad offset) = refusals.BadStream (offset - head)
bad_piece head (faults.TooMany limit) = refusals.TooMany limit
bad_piece head faults.Memory = refusals.NoMemory

-- the session takes the piece, which is placed in the drive behind what was read of the stream
abbrev pub taking : ℕ → ℕ → List ℕ → SessionView → RoomView → Plan
taking drive ssid piece session room =
    Do (Take ssid piece ∷ placing drive ssid session.reading.read piece room)
    (Done (Next (length session.sent + length piece)))

-- this is planned where the reader takes the piece
abbrev pub judged : Result Reading StreamFault → ℕ → Plan → Plan
judged (Ok reading) head plan = plan
judged (Err fault) head plan = Refuse (bad_piece head fault)

abbrev pub on_drive : Option ℕ → ℕ → List ℕ → SessionView → RoomView → Plan
on_drive None ssid piece session room = Refuse (refusals.NeedVolume session.head.pool)
on_drive (Some drive) ssid piece session room =
    judged (reads session.reading piece) (length (head_text session.head))
    (taking drive ssid piece session room)

-- the plan of a session's next piece: the stream may become so long, and there is a drive for it
abbrev pub IsNewPlan : ℕ → List ℕ → SessionView → RoomView → Plan → Type 0
IsNewPlan ssid piece session room plan =
    MatchBool (nat_le (session.reading.read + length piece) max_size)
    ((drive : Option ℕ)
    × IsDriveFor session.drive session.head.pool (length piece) room drive
    × (plan ≡ on_drive drive ssid piece session room))
    (plan ≡ Refuse (refusals.TooMany max_size))

-- ---- any piece

-- the plan of a piece, once it is known how it goes with what was sent
abbrev pub IsSentPlan : Checked → Ssid → List ℕ → SessionView → RoomView → Plan → Type 0
IsSentPlan checks.NotOpen ssid piece session room plan = plan ≡ Refuse (refusals.NotOpen ssid)
IsSentPlan (checks.Repeat next) ssid piece session room plan = plan ≡ Do [] (Done (Next next))
IsSentPlan (checks.Gap expected) ssid piece session room plan =
    plan ≡ Refuse (refusals.Gap expected)
IsSentPlan checks.New ssid piece session room plan = IsNewPlan ssid.0 piece session room plan

-- the plan of a piece of this session, if it is open
abbrev pub IsSessionPlan : Option SessionView → Ssid → ℕ → List ℕ → RoomView → Plan → Type 0
IsSessionPlan None ssid offset piece room plan = plan ≡ Refuse (refusals.NotOpen ssid)
IsSessionPlan (Some session) ssid offset piece room plan =
    MatchBool (nat_le (length piece) max_piece)
    (IsSentPlan (check_sent (length session.sent) offset (length piece)) ssid piece session room
    plan) (plan ≡ Refuse (refusals.PieceTooLong max_piece))

abbrev pub IsAppendPlan : Ssid → ℕ → List ℕ → RoomView → Plan → Type 0
IsAppendPlan ssid offset piece room plan =
    IsSessionPlan (find_session ssid.0 room.sessions) ssid offset piece room plan
