-- The fields of a room's state as contracts see them.
use Rattle.std.specs.Prelude.{min, vec_capacity}
use Rattle.cat_journal.specs.Journal.{JournalView}
use Rattle.room_effects.specs.View.{IsRoom}
use Rattle.room_effects.specs.Memory.{HeldRoom}
use Rattle.room_state.specs.declared.entries.EntryJournal.TheInside as entries
use Rattle.room_state.specs.declared.state.RoomState.TheInside as state
use Rattle.room_state.specs.Memory.{without_spare}

-- an entry is spelled in one list, and framed in another
abbrev pub journal_view : entries.Inside → JournalView
journal_view inside =
    record inside.journal { spare = min inside.journal.spare (vec_capacity inside.text) }

abbrev pub state_view : state.Inside → HeldRoom
state_view inside = record {
  room = record {
    is_open = inside.is_open;
    catalogue = inside.catalogue.lists;
    sessions = inside.sessions.sessions;
    drives = inside.drives;
    journal = without_spare inside.journal;
  };
  memory = record {
    catalogue = inside.catalogue.room;
    parts = inside.sessions.rooms;
    entry = inside.journal.spare;
    closed = vec_capacity inside.closed;
  };
}

abbrev pub IsState : state.Inside → Type 0
IsState inside = IsRoom (state_view inside).room
