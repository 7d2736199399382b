-- The open sessions, in the order of their ssids.
use Rattle.std.specs.Prelude.{◌≡◌, ◌≢◌, ℕ, ◌+◌, ◌≤◌, ◌==◌, Bool, false, List, [], ◌∷◌, ◌++◌}
use Rattle.std.specs.Prelude.{length, map, nat_le, Option, Some, None, IsSome, Result, Ok, Err}
use Rattle.std.specs.Prelude.{if◌then◌else◌}
use Rattle.std.specs.List.{AllByRecursion}
use Rattle.std.specs.Option.{option_map}
use Rattle.std.specs.Ordering.{nat_cmp}
use Rattle.sha2.specs.Sha256.{sha256}
use Rattle.room_base.specs.Ordered.{Ascends, find_by, put_by, remove_by, update_by}
use Rattle.save_stream.specs.declared.fault.StreamFault.{StreamFault}
use Rattle.save_stream.specs.declared.head.SetHead.{SetHead}
use Rattle.save_stream.specs.Reading.{FollowsReading, Reading, behind_head, reads}
use Rattle.save_stream.specs.Spelling.{IsHead, head_text, max_size}
use Rattle.save_stream.specs.Standing.{AreBytes}
use Rattle.media_db.specs.declared.copies.Section.{Section}
use Rattle.save_session.specs.declared.checked.Checked.{Checked}
use Rattle.save_session.specs.declared.checked.Checked.TheVariants as checks
use Rattle.save_session.specs.Parts.{AreSections, with_part}

-- ---- one session

-- The head of a save set, the bytes sent behind it, what its reader has read of both, the sections
-- in which they lie, and the drive of the last piece, while it has the volume.
pub record SessionView : Type 0 where
  pub head : SetHead
  pub sent : List ℕ
  pub reading : Reading
  pub sections : List Section
  pub drive : Option ℕ

-- nothing is sent
abbrev pub started : SetHead → SessionView
started head = record {
  head = head;
  sent = [];
  reading = behind_head (length (head_text head)) head;
  sections = [];
  drive = None;
}

-- what a reader has read after bytes that it takes
abbrev pub read_on : Reading → Result Reading StreamFault → Reading
read_on reading (Ok next) = next
read_on reading (Err fault) = reading

-- one more piece is sent, which the reader takes
abbrev pub with_piece : List ℕ → SessionView → SessionView
with_piece piece session = record session {
  sent = session.sent ++ piece;
  reading = read_on session.reading (reads session.reading piece);
}

-- what the reader says of a piece
abbrev pub FollowsPiece : {X : Type 0} → List ℕ → SessionView → Result X StreamFault → Type 0
FollowsPiece piece session result =
    FollowsReading (reads session.reading piece) result (with_piece piece session).reading

-- several pieces, one after the other
abbrev pub with_pieces : List (List ℕ) → SessionView → SessionView
with_pieces [] session = session
with_pieces (piece ∷ pieces) session = with_pieces pieces (with_piece piece session)

-- a part was placed on a drive
abbrev pub placed_on : ℕ → Section → SessionView → SessionView
placed_on drive part session =
    record session { sections = with_part part session.sections; drive = Some drive }

abbrev pub is_on : ℕ → Option ℕ → Bool
is_on drive None = false
is_on drive (Some other) = other == drive

-- the drive of a session, when it has left this one
abbrev pub drive_after : ℕ → Option ℕ → Option ℕ
drive_after left drive = if is_on left drive then None else drive

-- a session that was on the drive is on none
abbrev pub off_drive : ℕ → SessionView → SessionView
off_drive drive session = record session { drive = drive_after drive session.drive }

-- the digest of the bytes sent, once the stream has ended
abbrev pub digest_of : SessionView → Option (List ℕ)
digest_of session = if session.reading.ended then Some (sha256 session.sent) else None

-- Whether bytes of this length at this offset behind the head are new. They were sent where they
-- end no further than what was sent.
abbrev pub check_sent : ℕ → ℕ → ℕ → Checked
check_sent next offset size =
    if nat_le (offset + size) next then checks.Repeat next
    else (if offset == next then checks.New else checks.Gap next)

-- The head is allowed, the reader has read it and the bytes sent, and the sections follow each
-- other.
pub record IsSession (session : SessionView) : Type 0 where
  pub allowed : IsHead session.head
  pub bytes : AreBytes session.sent
  pub read : reads (behind_head (length (head_text session.head)) session.head) session.sent
      ≡ Ok session.reading
  pub count : session.reading.read ≡ length (head_text session.head) + length session.sent
  pub size : session.reading.read ≤ max_size
  pub sections : AreSections session.sections

-- ---- the open ones

abbrev pub ssid_of : SessionView → ℕ
ssid_of session = session.head.ssid.0

-- the ssids ascend strictly, and each is a session
pub record AreOpenSessions (sessions : List SessionView) : Type 0 where
  pub ascending : Ascends nat_cmp ssid_of sessions
  pub each : AllByRecursion IsSession sessions

abbrev pub find_session : ℕ → List SessionView → Option SessionView
find_session = find_by nat_cmp ssid_of

abbrev pub IsOpen : ℕ → List SessionView → Type 0
IsOpen ssid sessions = IsSome (find_session ssid sessions)

-- what the session of an ssid has
abbrev pub of_session : {X : Type 0} → (SessionView → X) → ℕ → List SessionView → Option X
of_session field ssid sessions = option_map field (find_session ssid sessions)

-- the sessions with a new one
abbrev pub start_session : SetHead → List SessionView → List SessionView
start_session head = put_by nat_cmp ssid_of (started head)

-- the sessions with a change of the one that has the ssid
abbrev pub change_session : ℕ → (SessionView → SessionView) → List SessionView → List SessionView
change_session = update_by nat_cmp ssid_of

-- the sessions without the one that has the ssid
abbrev pub close_session : ℕ → List SessionView → List SessionView
close_session = remove_by nat_cmp ssid_of

-- no session is on the drive
abbrev pub leave_drive : ℕ → List SessionView → List SessionView
leave_drive drive = map (off_drive drive)

-- whether bytes that are sent for an ssid are new
abbrev pub check_open : Option SessionView → ℕ → ℕ → Checked
check_open None offset size = checks.NotOpen
check_open (Some session) offset size = check_sent (length session.sent) offset size

-- ---- room for sections

-- how many more parts the session of an ssid can be given without taking memory
pub record PartRoom : Type 0 where
  pub ssid : ℕ
  pub room : ℕ

abbrev pub room_ssid : PartRoom → ℕ
room_ssid room = room.ssid

abbrev pub room_or_none : Option PartRoom → ℕ
room_or_none None = 0
room_or_none (Some room) = room.room

abbrev pub room_for : ℕ → List PartRoom → ℕ
room_for ssid rooms = room_or_none (find_by nat_cmp room_ssid ssid rooms)

-- each other session has the room that it had
abbrev pub KeepsOtherRooms : ℕ → List PartRoom → List PartRoom → Type 0
KeepsOtherRooms ssid old new =
    (other : ℕ) → other ≢ ssid → room_for other new ≡ room_for other old

-- the open sessions, and the room of each
pub record SessionsView : Type 0 where
  pub sessions : List SessionView
  pub rooms : List PartRoom
