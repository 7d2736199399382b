-- What is known of a save whose session was opened, and whose record is to be entered.
use Rattle.std.specs.Prelude.{◌≡◌, ℕ, ◌≤◌, ◌<◌, None}
use Rattle.room_base.specs.declared.numbers.Moment.{Moment}
use Rattle.room_base.specs.declared.numbers.Ssid.{Ssid}
use Rattle.save_stream.specs.declared.head.SetHead.{SetHead}
use Rattle.save_stream.specs.Spelling.{IsHead, head_text}
use Rattle.catalog_change.specs.declared.change.Change.{Change}
use Rattle.catalog_change.specs.declared.change.Change.TheVariants as changes
use Rattle.room_catalog.specs.Fits.{Fits}
use Rattle.room_catalog.specs.Held.{catalogue_of}
use Rattle.save_session.specs.Sessions.{find_session, room_for, start_session}
use Rattle.room_effects.specs.View.{RoomView, IsBetweenCommands}
use Rattle.room_effects.specs.Effects.{Enter, after_done, closed}
use Rattle.room_effects.specs.Memory.{HeldRoom, RoomMemory}
use Rattle.room_entering.specs.Prepared.{IsPrepared}
use Rattle.room_state.specs.Commits.{IsReadyForCommits}
use Rattle.save_begin.specs.Fitting.{GoesTo}
use Rattle.save_begin.specs.declared.entering.Begun.{Begun}

-- what is written of the head
pub record IsMade (head : SetHead) (begun : Begun) : Type 0 where
  pub change : begun.change ≡ changes.Begun head
  pub text : begun.text ≡ head_text head

-- the session of the head was opened last, and nothing is entered yet
pub record IsJustOpened (head : SetHead) (room : RoomView) : Type 0 where
  pub was : RoomView
  pub between : IsBetweenCommands was
  pub new : find_session head.ssid.0 was.sessions ≡ None
  pub sessions : room.sessions ≡ start_session head was.sessions
  pub records : room.catalogue.records ≡ was.catalogue.records

-- the session of the head was opened last, its record fits, the drive takes its bytes, and all memory
-- is there
pub record MayEnter (head : SetHead) (ssid : Ssid) (drive : ℕ) (begun : Begun) (held : HeldRoom)
    : Type 0 where
  pub ssid_is : ssid ≡ head.ssid
  pub allowed : IsHead head
  pub made : IsMade head begun
  pub opened : IsJustOpened head held.room
  pub fits : Fits (catalogue_of held.room.catalogue) (changes.Begun head)
  pub goes : GoesTo head held.room drive
  pub prepared : IsPrepared begun.change begun.first held
  pub part : 0 < room_for head.ssid.0 held.memory.parts
  pub commits : IsReadyForCommits held

-- no memory for parts of sessions, or for the sessions that a commit closes, was taken
pub record KeepsSessionMemory (before after : RoomMemory) : Type 0 where
  pub parts : (ssid : ℕ) → room_for ssid before.parts ≤ room_for ssid after.parts
  pub closed : before.closed ≤ after.closed

-- the change was entered, at once or behind the first file of the journal
pub record WasEntered (m : Moment) (change : Change) (old new : RoomView) : Type 0 where
  pub before : RoomView
  pub made : new ≡ after_done (Enter m change) before
  pub opens : before.is_open ≡ old.is_open
  pub sessions : before.sessions ≡ old.sessions
  pub drives : before.drives ≡ old.drives
  pub records : before.catalogue.records ≡ old.catalogue.records

-- a write of the journal failed, which closed the room
pub record WasClosed (new : RoomView) : Type 0 where
  pub before : RoomView
  pub made : new ≡ closed before
