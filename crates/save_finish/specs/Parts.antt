-- What is at hand before an index is entered in parts, and what is true while it is.
use Rattle.std.specs.Global.{Vec}
use Rattle.std.specs.List.{AllByRecursion}
use Rattle.std.specs.Prelude.{◌≡◌, ◌≢◌, ◌⊎◌, ℕ, ◌*◌, ◌≤◌, ◌<◌, ◌^◌, true, List, [], length, take}
use Rattle.std.specs.Prelude.{Option, Some, None, IsSome, IsSomeAnd, IsTrue, vec_capacity}
use Rattle.room_base.specs.declared.numbers.Moment.{Moment}
use Rattle.room_base.specs.declared.numbers.Ssid.{Ssid}
use Rattle.save_stream.specs.declared.entry.IndexEntry.{IndexEntry}
use Rattle.cat_journal.specs.Journal.{form_of}
use Rattle.media_db.specs.Rows.{find_record}
use Rattle.catalog_change.specs.Catalogues.{max_number}
use Rattle.catalog_change.specs.Changes.{AreEntries, AreSections, max_part}
use Rattle.catalog_change.specs.declared.change.Change.{Change}
use Rattle.catalog_change.specs.declared.change.Change.TheVariants.{FinishedParts}
use Rattle.catalog_spelling.specs.SpelledSnapshots.{IsText}
use Rattle.room_catalog.specs.Fits.{IsFinishable}
use Rattle.room_catalog.specs.Held.{Parts, catalogue_of}
use Rattle.save_session.specs.Sessions.{SessionView, find_session}
use Rattle.room_effects.specs.View.{RoomView}
use Rattle.room_effects.specs.Effects.{entry_bytes, part_bytes}
use Rattle.room_effects.specs.Memory.{HeldRoom}
use Rattle.save_finish.specs.declared.part_room.PartRoom.{PartRoom}
use Rattle.save_finish.specs.declared.stream.EndedStream.{EndedStream}
use Rattle.save_finish.specs.Ending.{finished_parts, part_count, part_of}
use Rattle.save_finish.specs.Ended.{IsStreamOf}

-- ---- memory

-- an empty list that has room for the entries of a part
pub record IsListFor (list : Vec IndexEntry) : Type 0 where
  pub empty : list.items ≡ []
  pub room : max_part ≤ vec_capacity list

-- such a list for each part of an index
pub record AreListsFor (files : ℕ) (lists : List (Vec IndexEntry)) : Type 0 where
  pub each : AllByRecursion IsListFor lists
  pub count : length lists ≡ part_count files

-- the snapshot of a new file is at hand where the current one takes no parts
abbrev pub IsForForm : Option (List ℕ) → RoomView → Type 0
IsForForm None room = form_of room.journal.current ≢ 1
IsForForm (Some snapshot) room =
    (form_of room.journal.current ≡ 1) × IsText true snapshot (catalogue_of room.catalogue)

-- what is at hand for the parts of a session's index
pub record IsRoomFor (parts : PartRoom) (room : RoomView) (session : SessionView) : Type 0 where
  pub stream : IsStreamOf parts.stream session
  pub lists : AreListsFor (length session.reading.entries) parts.lists.items
  pub snapshot : IsForForm parts.snapshot room

-- there is memory for the parts of an index, and for the change that closes them; each of their
-- entries has at most so many bytes
pub record HasMemoryForIndex (ssid : Ssid) (index : List IndexEntry) (closing : Change)
    (held : HeldRoom) : Type 0 where
  pub most : ℕ
  pub short : most < 2 ^ 32
  pub part : (m : Moment) (part : ℕ) → length (part_bytes m ssid part (part_of part index)) ≤ most
  pub end : (m : Moment) → length (entry_bytes m closing) ≤ most
  pub entry : most ≤ held.memory.entry
  pub entries : length index ≤ held.memory.catalogue.entries
  pub indexes : 0 < held.memory.catalogue.indexes

-- the same of the index of a session
abbrev pub IsReadyForParts : Ssid → HeldRoom → SessionView → Type 0
IsReadyForParts ssid held session =
    HasMemoryForIndex ssid session.reading.entries (finished_parts ssid session) held

-- ---- entries

-- the set is complete, with the index that the parts before it hold
abbrev pub closing_change : Ssid → EndedStream → Change
closing_change ssid stream =
    FinishedParts ssid stream.files stream.bytes stream.digest stream.sections

-- parts of the index of a set without a session may be entered, and then the change that closes them
pub record MayEnterIndex (ssid : Ssid) (stream : EndedStream) (index : List IndexEntry)
    (room : RoomView) : Type 0 where
  pub opens : IsTrue room.is_open
  pub closed : find_session ssid.0 room.sessions ≡ None
  pub below : room.catalogue.number < max_number
  pub row : IsSomeAnd (find_record ssid.0 room.catalogue.records) (IsFinishable stream.bytes)
  pub file : IsSome room.journal.current
  pub entries : AreEntries index
  pub many : max_part < length index
  pub files : stream.files ≡ length index
  pub sections : AreSections stream.sections

-- The room is as before beside the parts that wait and the journal, of which a file of form 2 is
-- open, and no memory for parts is less.
pub record IsEnteredFrom (old new : HeldRoom) : Type 0 where
  pub opens : new.room.is_open ≡ old.room.is_open
  pub sessions : new.room.sessions ≡ old.room.sessions
  pub catalogue : new.room.catalogue
      ≡ record old.room.catalogue { parts = new.room.catalogue.parts }
  pub file : IsSome new.room.journal.current
  pub form : form_of new.room.journal.current ≡ 2
  pub entry : old.memory.entry ≤ new.memory.entry
  pub entries : old.memory.catalogue.entries ≤ new.memory.catalogue.entries
  pub indexes : old.memory.catalogue.indexes ≤ new.memory.catalogue.indexes

-- so many parts of the index wait
abbrev pub waiting : Ssid → ℕ → List IndexEntry → Parts
waiting ssid count index =
    record { ssid = ssid.0; count = count; entries = take (max_part * count) index }

-- so many parts of the index were entered, if any
pub record HasEntered (ssid : Ssid) (count : ℕ) (index : List IndexEntry) (old new : HeldRoom)
    : Type 0 where
  pub from : IsEnteredFrom old new
  pub parts : (count ≡ 0) ⊎ (new.room.catalogue.parts ≡ waiting ssid count index)
