-- The state of a room as contracts see it, and what is true of it.
use Rattle.std.specs.Prelude.{◌≡◌, ℕ, ◌≤◌, Bool, true, false, List, [], length}
use Rattle.std.specs.Prelude.{Option, Some, None, IsSome, IfSome, IsSomeAnd}
use Rattle.std.specs.List.{AllByRecursion}
use Rattle.save_stream.specs.declared.head.SetHead.{SetHead}
use Rattle.media_db.specs.Rows.{find_record}
use Rattle.media_db.specs.Streams.{head_of}
use Rattle.media_db.specs.declared.records.Record.{Record}
use Rattle.media_db.specs.declared.records.RecordState.TheVariants as states
use Rattle.cat_journal.specs.Journal.{JournalView, IsKnown, form_of}
use Rattle.room_catalog.specs.Held.{CatalogueLists, catalogue_of, no_parts, opening_catalogue}
use Rattle.room_catalog.specs.Invariant.{IsHeld}
use Rattle.slot_changer.specs.Drives.{DriveView, IsDrive, IsMounted, in_drive, no_volumes}
use Rattle.save_session.specs.Sessions.{SessionView, AreOpenSessions, ssid_of}
use Rattle.save_session.specs.Parts.{end_of}

-- Whether the room is open; its catalogue, with the parts of an index that wait; the open sessions;
-- the four drives; and where its journal stands. None of it tells what memory there is.
pub record RoomView : Type 0 where
  pub is_open : Bool
  pub catalogue : CatalogueLists
  pub sessions : List SessionView
  pub drives : List (Option DriveView)
  pub journal : JournalView

-- what is in a drive of the room
abbrev pub held_in : RoomView → ℕ → Option DriveView
held_in room drive = in_drive room.drives drive

-- ---- what is always true

-- a volume in a drive may be written, and no commit of it has failed: a volume whose commit fails
-- is taken out at once
pub record IsInDrive (one : DriveView) : Type 0 where
  pub mounted : IsMounted one
  pub sound : one.failed ≡ false

-- a session that has a drive has one in which there is a volume
abbrev pub HasItsDrive : List (Option DriveView) → SessionView → Type 0
HasItsDrive drives session =
    IfSome session.drive (λ drive. IsDrive drive × IsSome (in_drive drives drive))

-- there are four drives, and no cartridge is in two of them
pub record AreDrives (drives : List (Option DriveView)) : Type 0 where
  pub four : length drives ≡ 4
  pub each : AllByRecursion (λ held. IfSome held IsInDrive) drives
  pub apart : (drive other : ℕ) (one two : DriveView) → IsDrive drive → IsDrive other
      → in_drive drives drive ≡ Some one → in_drive drives other ≡ Some two
      → one.volume.cart.0 ≡ two.volume.cart.0 → drive ≡ other

-- The journal's last number is the catalogue's. Where no journal file is open the catalogue is the
-- opening one, and a file of form 1 has no parts.
pub record IsJournalOf (catalogue : CatalogueLists) (journal : JournalView) : Type 0 where
  pub known : IsKnown journal.current
  pub number : journal.last ≡ catalogue.number
  pub unopened : journal.current ≡ None
      → (catalogue_of catalogue ≡ opening_catalogue) × (catalogue.parts ≡ no_parts)
  pub first_form : form_of journal.current ≡ 1 → catalogue.parts ≡ no_parts
  -- the room's memory tells the spare bytes
  pub spare : journal.spare ≡ 0

-- a closed room has no sessions and no volumes in its drives
pub record IsEmptied (room : RoomView) : Type 0 where
  pub sessions : room.sessions ≡ []
  pub drives : room.drives ≡ no_volumes

pub record IsRoom (room : RoomView) : Type 0 where
  pub catalogue : IsHeld room.catalogue
  pub sessions : AreOpenSessions room.sessions
  pub few : length room.sessions ≤ 64
  pub drives : AreDrives room.drives
  pub on_drives : AllByRecursion (HasItsDrive room.drives) room.sessions
  pub journal : IsJournalOf room.catalogue room.journal
  pub emptied : room.is_open ≡ false → IsEmptied room

-- ---- what is true between two commands

-- a head with the times of a record, which may be amended while the session is open
abbrev pub with_times_of : Record → SetHead → SetHead
with_times_of row head = record head { browse = row.browse; retain = row.retain }

-- the record of a session's set: it is begun, and has the session's head
pub record IsRecordOf (session : SessionView) (row : Record) : Type 0 where
  pub begun : row.state ≡ states.Begun
  pub kept : row.purged ≡ false
  pub head : head_of row ≡ with_times_of row session.head
  pub unchanged : row.changed ≡ 0 → (head_of row ≡ session.head) × (row.hold ≡ false)

-- all that was sent is pushed: the sections end where the head and the bytes sent end
abbrev pub IsPushed : SessionView → Type 0
IsPushed session = end_of session.sections ≡ session.reading.read

pub record IsBetweenCommands (room : RoomView) : Type 0 where
  pub is : IsRoom room
  pub records : AllByRecursion (λ session.
      IsSomeAnd (find_record (ssid_of session) room.catalogue.records) (IsRecordOf session))
      room.sessions
  pub pushed : AllByRecursion IsPushed room.sessions

-- ---- the room that opening makes

-- an open room with this catalogue and journal, without sessions, and with empty drives
abbrev pub opened_room : CatalogueLists → JournalView → RoomView
opened_room catalogue journal = record {
  is_open = true;
  catalogue = catalogue;
  sessions = [];
  drives = no_volumes;
  journal = record journal { spare = 0 };
}
