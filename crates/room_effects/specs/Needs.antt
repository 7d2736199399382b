-- What each effect needs of the room so that it can be done. What memory it needs stands apart.
use Rattle.std.specs.Prelude.{◌≡◌, ◌≢◌, ℕ, ◌+◌, ◌≤◌, ◌<◌, ◌^◌, true, List, length, IsTrue}
use Rattle.std.specs.Prelude.{Some, None, IsSome, IsSomeAnd, IfSome, IsOk}
use Rattle.room_base.specs.Numbers.{max_moment}
use Rattle.room_base.specs.declared.numbers.Moment.{Moment}
use Rattle.room_base.specs.declared.numbers.Ssid.{Ssid}
use Rattle.save_stream.specs.Reading.{reads}
use Rattle.save_stream.specs.Spelling.{IsHead}
use Rattle.save_stream.specs.declared.entry.IndexEntry.{IndexEntry}
use Rattle.save_stream.specs.declared.head.SetHead.{SetHead}
use Rattle.volume_block.specs.Valid.{IsLabel}
use Rattle.volume_block.specs.declared.label.Label.{Label}
use Rattle.volume_store.specs.Writes.{IsCart}
use Rattle.volume_store.specs.declared.commit.Volume.{Volume}
use Rattle.cat_journal.specs.Journal.{form_of}
use Rattle.catalog_change.specs.Changes.{IsChange}
use Rattle.catalog_change.specs.declared.change.Change.{Change}
use Rattle.catalog_change.specs.declared.change.Change.TheVariants.{IndexPart}
use Rattle.catalog_spelling.specs.SpelledSnapshots.{IsText}
use Rattle.room_catalog.specs.Fits.{Fits, FitsParts}
use Rattle.room_catalog.specs.Held.{catalogue_of}
use Rattle.slot_changer.specs.Drives.{DriveView, IsDrive, MayTakeOut}
use Rattle.slot_changer.specs.Taking.{CanCommit, CanPush}
use Rattle.save_session.specs.Parts.{IsNextPart}
use Rattle.save_session.specs.Sessions.{SessionView, IsOpen, find_session}
use Rattle.room_effects.specs.View.{RoomView, held_in}
use Rattle.room_effects.specs.Effects.{
  Effect,
  Enter,
  EnterPart,
  TurnOver,
  Commit,
  Look,
  WriteLabel,
  Push,
  PutIn,
  TakeOut,
  Open,
  Take,
  Close,
  entry_bytes,
  part_bytes,
  part_of,
}

-- ---- the journal

-- it is no part of an index
abbrev pub IsWholeChange : Change → Type 0
IsWholeChange (IndexPart ssid part index) = ⊥
IsWholeChange _ = Unit {0}

-- the change is allowed, and fits the catalogue and the parts that wait
pub record IsFitting (change : Change) (room : RoomView) : Type 0 where
  pub allowed : IsChange change
  pub fits : Fits (catalogue_of room.catalogue) change
  pub parts_fit : FitsParts room.catalogue.parts change

-- an entry of so many bytes can be written: a journal file is open, and they have a length of four
-- bytes
pub record TakesEntry (size : ℕ) (room : RoomView) : Type 0 where
  pub file : IsSome room.journal.current
  pub short : size < 2 ^ 32

pub record CanEnter (m : Moment) (change : Change) (room : RoomView) : Type 0 where
  pub whole : IsWholeChange change
  pub fitting : IsFitting change room
  pub moment : m.0 ≤ max_moment
  pub entry : TakesEntry (length (entry_bytes m change)) room

-- only a file of form 2 takes parts
pub record CanEnterPart (m : Moment) (ssid : Ssid) (part : ℕ) (index : List IndexEntry)
    (room : RoomView) : Type 0 where
  pub fitting : IsFitting (IndexPart ssid part index) room
  pub moment : m.0 ≤ max_moment
  pub entry : TakesEntry (length (part_bytes m ssid part index)) room
  pub form : form_of room.journal.current ≡ 2

-- the snapshot is the catalogue's text, and the gate behind it has a place
pub record CanTurnOver (snapshot : List ℕ) (room : RoomView) : Type 0 where
  pub text : IsText true snapshot (catalogue_of room.catalogue)
  pub place : 65 + length snapshot < 2 ^ 64

-- ---- cartridges and drives

-- the cartridge of this number is in no drive
abbrev pub IsInNoDrive : ℕ → RoomView → Type 0
IsInNoDrive cart room = (drive : ℕ) (one : DriveView) → IsDrive drive
    → held_in room drive ≡ Some one → one.volume.cart.0 ≢ cart

pub record CanWriteLabel (label : Label) (room : RoomView) : Type 0 where
  pub allowed : IsLabel label
  pub in_no_drive : IsInNoDrive label.cart.0 room

-- the bytes fit the drive, and where the set has an open session they are its next part
pub record FitsDrive (ssid copy offset : ℕ) (bytes : List ℕ) (room : RoomView)
    (one : DriveView) : Type 0 where
  pub can : CanPush (length bytes) one
  pub next : IfSome (find_session ssid room.sessions)
      (λ session. IsNextPart (part_of one ssid copy offset bytes) session.sections)

pub record CanPushInto (drive ssid copy offset : ℕ) (bytes : List ℕ) (room : RoomView)
    : Type 0 where
  pub is_drive : IsDrive drive
  pub is_set : 1 ≤ ssid
  pub is_copy : 1 ≤ copy
  pub ends : offset + length bytes ≤ 2 ^ 36
  pub held : IsSomeAnd (held_in room drive) (FitsDrive ssid copy offset bytes room)

-- the drive is empty, and the volume may be mounted and is in no other drive
pub record CanPutIn (drive : ℕ) (volume : Volume) (room : RoomView) : Type 0 where
  pub is_drive : IsDrive drive
  pub empty : held_in room drive ≡ None
  pub is_cart : IsCart volume.cart.0
  pub allowed : IsLabel volume.label
  pub mark : 1 ≤ volume.mark
  pub in_no_drive : IsInNoDrive volume.cart.0 room

-- ---- sessions

-- there are fewer than 64 sessions, none of this set, and the head is allowed
pub record CanOpen (head : SetHead) (room : RoomView) : Type 0 where
  pub few : length room.sessions < 64
  pub new : find_session head.ssid.0 room.sessions ≡ None
  pub allowed : IsHead head

-- a stream with so many bytes more isn't longer than one may be
abbrev pub HasStreamRoom : ℕ → SessionView → Type 0
HasStreamRoom count session = session.reading.read + count ≤ 2 ^ 36

-- the session's reader takes a piece
abbrev pub IsTaken : List ℕ → SessionView → Type 0
IsTaken piece session = IsOk (reads session.reading piece)

-- ---- effects

-- what an effect needs of an open room
abbrev pub Needs : Effect → RoomView → Type 0
Needs (Enter m change) room = CanEnter m change room
Needs (EnterPart m ssid part index) room = CanEnterPart m ssid part index room
Needs (TurnOver snapshot) room = CanTurnOver snapshot room
Needs (Commit drive asking) room = IsDrive drive × IsSomeAnd (held_in room drive) CanCommit
Needs (Look cart seen) room = IsCart cart
Needs (WriteLabel label) room = CanWriteLabel label room
Needs (Push drive ssid copy offset bytes) room = CanPushInto drive ssid copy offset bytes room
Needs (PutIn drive volume) room = CanPutIn drive volume room
Needs (TakeOut drive) room = IsDrive drive × MayTakeOut (held_in room drive)
Needs (Open head) room = CanOpen head room
Needs (Take ssid piece) room =
    IsSomeAnd (find_session ssid room.sessions) (HasStreamRoom (length piece))
Needs (Close ssid) room = IsOpen ssid room.sessions

-- the room is open, and has what the effect needs
pub record CanDo (effect : Effect) (room : RoomView) : Type 0 where
  pub opens : IsTrue room.is_open
  pub needs : Needs effect room
