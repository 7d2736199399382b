-- What is true of a room in the middle of a command that changes one session.
use Rattle.std.specs.Prelude.{◌≡◌, ◌≢◌, ℕ, ◌+◌, List, length, Option, IsSomeAnd}
use Rattle.std.specs.List.{AllByRecursion}
use Rattle.media_db.specs.Rows.{find_record}
use Rattle.media_db.specs.declared.records.Record.{Record}
use Rattle.save_session.specs.Parts.{end_of}
use Rattle.save_session.specs.Sessions.{SessionView, ssid_of}
use Rattle.room_effects.specs.View.{RoomView, IsPushed, IsRecordOf, IsRoom}

-- the session's set has its begun record among these
abbrev pub HasRecord : List Record → SessionView → Type 0
HasRecord records session =
    IsSomeAnd (find_record (ssid_of session) records) (IsRecordOf session)

-- if it isn't the session of this ssid, all that it was sent is pushed
abbrev pub IsPushedUnless : ℕ → SessionView → Type 0
IsPushedUnless ssid session = ssid_of session ≢ ssid → IsPushed session

-- What is true between two commands, but that the session of this ssid may have been sent what isn't
-- pushed yet.
pub record IsBetweenBut (ssid : ℕ) (room : RoomView) : Type 0 where
  pub is : IsRoom room
  pub records : AllByRecursion (HasRecord room.catalogue.records) room.sessions
  pub pushed : AllByRecursion (IsPushedUnless ssid) room.sessions

-- bytes at this offset begin where the session's sections end, and end where what it was sent ends
pub record EndsWith (offset : ℕ) (bytes : List ℕ) (session : SessionView) : Type 0 where
  pub from : offset ≡ end_of session.sections
  pub to : offset + length bytes ≡ session.reading.read
