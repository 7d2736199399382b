-- What a command does, as data: effects, and what each makes of the room.
use Rattle.std.specs.Prelude.{ℕ, ◌+◌, ◌-◌, ◌*◌, ◌^◌, ◌==◌, ◌||◌, not, Bool, false}
use Rattle.std.specs.Prelude.{List, [], ◌∷◌, length, filter, if◌then◌else◌}
use Rattle.std.specs.Prelude.{Option, Some, None, Result}
use Rattle.room_base.specs.declared.numbers.Moment.{Moment}
use Rattle.room_base.specs.declared.numbers.Ssid.{Ssid}
use Rattle.save_stream.specs.declared.entry.IndexEntry.{IndexEntry}
use Rattle.save_stream.specs.declared.head.SetHead.{SetHead}
use Rattle.volume_block.specs.declared.label.Label.{Label}
use Rattle.volume_store.specs.declared.commit.Volume.{Volume}
use Rattle.volume_store.specs.declared.label.Found.{Found}
use Rattle.volume_store.specs.declared.marks.MountFault.{MountFault}
use Rattle.chunk_mux.specs.Packing.{first_used}
use Rattle.media_db.specs.declared.copies.Section.{Section}
use Rattle.cat_journal.specs.Journal.{JournalView, behind_entry, next_generation, turned_over}
use Rattle.catalog_change.specs.declared.change.Change.{Change}
use Rattle.catalog_change.specs.declared.change.Change.TheVariants.{IndexPart}
use Rattle.catalog_spelling.specs.Changes.{change_text}
use Rattle.room_catalog.specs.Changing.{catalogue_after, with_part_waiting}
use Rattle.room_catalog.specs.Held.{no_parts}
use Rattle.slot_changer.specs.Drives.{
  DriveView,
  after_commit,
  after_push,
  blocks_in,
  change_drive,
  holds_set,
  mounted,
  no_volumes,
  set_drive,
}
use Rattle.save_session.specs.Sessions.{
  SessionView,
  change_session,
  close_session,
  leave_drive,
  placed_on,
  ssid_of,
  start_session,
  with_piece,
}
use Rattle.room_effects.specs.View.{RoomView, held_in}

-- what was found on a cartridge: its label, or what mounting it gives
pub data Seen : Type 0 where
  SeenLabel : Found → Seen
  SeenVolume : Result Volume MountFault → Seen

-- A copy that isn't of an open session has no place in the room: its sections stand in the change
-- that ends it.
pub data Effect : Type 0 where
  -- an entry of the journal, and the catalogue after its change, which is no part of an index
  Enter : Moment → Change → Effect
  -- the same of a part of an index: its set, its number from 0 on, its entries
  EnterPart : Moment → Ssid → ℕ → List IndexEntry → Effect
  -- the journal goes on in its other file, behind this snapshot
  TurnOver : List ℕ → Effect
  -- a drive's buffer becomes the next file of its volume; the session that asks for it, if any, is
  -- closed where that fails
  Commit : ℕ → Option ℕ → Effect
  -- a cartridge is brought to rest and read, and this is found
  Look : ℕ → Seen → Effect
  -- a cartridge gets a label, and has no file
  WriteLabel : Label → Effect
  -- bytes of a copy of a set, which begin at this offset of its stream, go into a drive's buffer;
  -- where the set has an open session they are its next part
  Push : ℕ → ℕ → ℕ → ℕ → List ℕ → Effect
  -- a volume is put into a drive, or is taken out of it
  PutIn : ℕ → Volume → Effect
  TakeOut : ℕ → Effect
  -- a session begins with this head, is sent a piece, or ends
  Open : SetHead → Effect
  Take : ℕ → List ℕ → Effect
  Close : ℕ → Effect

-- an effect that was done, or one that failed and may be half done
pub data Deed : Type 0 where
  Done : Effect → Deed
  Broken : Effect → Deed

abbrev pub effect_of : Deed → Effect
effect_of (Done effect) = effect
effect_of (Broken effect) = effect

-- ---- the journal

-- what is written of a change, and of a part
abbrev pub entry_bytes : Moment → Change → List ℕ
entry_bytes m change = change_text m.0 change

abbrev pub part_bytes : Moment → Ssid → ℕ → List IndexEntry → List ℕ
part_bytes m ssid part index = change_text m.0 (IndexPart ssid part index)

-- the journal behind the entry of a change, which has a number, and behind a part, which has none
abbrev pub behind_change : ℕ → JournalView → JournalView
behind_change size journal = record journal {
  current = behind_entry journal.current size;
  last = journal.last + 1;
}

abbrev pub behind_part : ℕ → JournalView → JournalView
behind_part size journal = record journal { current = behind_entry journal.current size }

-- no generation comes behind that of the current file, so that a turn-over writes nothing
abbrev pub is_at_last : JournalView → Bool
is_at_last journal = next_generation journal.current == 2 ^ 64

-- ---- drives and sessions

-- the number of a data block of the buffer, where it is committed
abbrev pub block_number : DriveView → ℕ → ℕ
block_number one place = one.volume.mark + 1 + one.volume.label.units * place

-- where bytes lie that are pushed into a drive
abbrev pub part_of : DriveView → ℕ → ℕ → ℕ → List ℕ → Section
part_of one ssid copy offset bytes = record {
  volid = one.volume.label.volid;
  mark = one.volume.mark;
  first = block_number one (first_used one.buffer bytes);
  last = block_number one (blocks_in (Some (after_push ssid copy offset bytes one)) - 1);
  from = offset;
  to = offset + length bytes;
}

-- the part is the next one of the set's session, if it has one
abbrev pub placed_in : Option DriveView → ℕ → ℕ → ℕ → ℕ → List ℕ
    → List SessionView → List SessionView
placed_in None drive ssid copy offset bytes sessions = sessions
placed_in (Some one) drive ssid copy offset bytes sessions =
    change_session ssid (placed_on drive (part_of one ssid copy offset bytes)) sessions

abbrev pub is_asking : Option ℕ → ℕ → Bool
is_asking None ssid = false
is_asking (Some asking) ssid = asking == ssid

-- whether a session ends where the commit of a drive fails: it has chunks in the buffer, or asked
abbrev pub ends_with : Option DriveView → Option ℕ → SessionView → Bool
ends_with held asking session =
    holds_set held (ssid_of session) || is_asking asking (ssid_of session)

abbrev pub ended_with : Option DriveView → Option ℕ → List SessionView → List SessionView
ended_with held asking sessions = filter (ends_with held asking) sessions

abbrev pub left_by : Option DriveView → Option ℕ → List SessionView → List SessionView
left_by held asking sessions = filter (λ session. not (ends_with held asking session)) sessions

-- ---- the room

-- a drive is empty, and no session is on it
abbrev pub emptied : ℕ → RoomView → RoomView
emptied drive room = record room {
  sessions = leave_drive drive room.sessions;
  drives = set_drive room.drives drive None;
}

-- the room is closed, and what it held in memory beside the catalogue is gone
abbrev pub closed : RoomView → RoomView
closed room = record room { is_open = false; sessions = []; drives = no_volumes }

-- the journal goes on in its other file, in which no part waits
abbrev pub turned : ℕ → RoomView → RoomView
turned size room =
    if is_at_last room.journal then room
    else record room {
      catalogue = record room.catalogue { parts = no_parts };
      journal = turned_over room.journal size;
    }

-- the sessions that go with the failed commit of a drive are closed, and the drive is emptied
abbrev pub without_drive : ℕ → Option ℕ → RoomView → RoomView
without_drive drive asking room = emptied drive
    (record room { sessions = left_by (held_in room drive) asking room.sessions })

abbrev pub after_done : Effect → RoomView → RoomView
after_done (Enter m change) room = record room {
  catalogue = catalogue_after m change room.catalogue;
  journal = behind_change (length (entry_bytes m change)) room.journal;
}
after_done (EnterPart m ssid part index) room = record room {
  catalogue = with_part_waiting ssid part index room.catalogue;
  journal = behind_part (length (part_bytes m ssid part index)) room.journal;
}
after_done (TurnOver snapshot) room = turned (length snapshot) room
after_done (Commit drive asking) room =
    record room { drives = change_drive room.drives drive after_commit }
after_done (Look cart seen) room = room
after_done (WriteLabel label) room = room
after_done (Push drive ssid copy offset bytes) room = record room {
  sessions = placed_in (held_in room drive) drive ssid copy offset bytes room.sessions;
  drives = change_drive room.drives drive (after_push ssid copy offset bytes);
}
after_done (PutIn drive volume) room =
    record room { drives = set_drive room.drives drive (Some (mounted volume)) }
after_done (TakeOut drive) room = emptied drive room
after_done (Open head) room = record room { sessions = start_session head room.sessions }
after_done (Take ssid piece) room =
    record room { sessions = change_session ssid (with_piece piece) room.sessions }
after_done (Close ssid) room = record room { sessions = close_session ssid room.sessions }

-- Where a write of the journal fails the room is closed. A read that fails changes nothing, and
-- where a label can't be written the entry before it stands. What is in memory alone can't fail.
abbrev pub after_broken : Effect → RoomView → RoomView
after_broken (Enter m change) room = closed room
after_broken (EnterPart m ssid part index) room = closed room
after_broken (TurnOver snapshot) room = closed room
after_broken (Commit drive asking) room = without_drive drive asking room
after_broken _ room = room

abbrev pub after : Deed → RoomView → RoomView
after (Done effect) room = after_done effect room
after (Broken effect) room = after_broken effect room

abbrev pub after_all : List Deed → RoomView → RoomView
after_all [] room = room
after_all (deed ∷ deeds) room = after_all deeds (after deed room)
