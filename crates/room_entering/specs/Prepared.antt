-- What is prepared before a change is entered, and what its entry leaves.
use Rattle.std.specs.Prelude.{◌≡◌, ℕ, ◌<◌, ◌^◌, true, List, length, Option, Some, None, IsSome}
use Rattle.room_base.specs.declared.numbers.Moment.{Moment}
use Rattle.catalog_change.specs.declared.change.Change.{Change}
use Rattle.catalog_spelling.specs.SpelledSnapshots.{IsText}
use Rattle.room_catalog.specs.Held.{catalogue_of}
use Rattle.room_effects.specs.View.{RoomView}
use Rattle.room_effects.specs.Effects.{Enter, entry_bytes}
use Rattle.room_effects.specs.Memory.{HasMemoryFor, HeldRoom}

-- a file of the journal is open; or none is, and this snapshot begins the first one
abbrev pub IsFirstFile : Option (List ℕ) → RoomView → Type 0
IsFirstFile None room = IsSome room.journal.current
IsFirstFile (Some snapshot) room =
    (room.journal.current ≡ None) × IsText true snapshot (catalogue_of room.catalogue)

-- there is memory for the change at whatever moment, its entry can be written, and the first file is
-- at hand where it is needed
pub record IsPrepared (change : Change) (first : Option (List ℕ)) (held : HeldRoom) : Type 0 where
  pub memory : (m : Moment) → HasMemoryFor (Enter m change) held
  pub short : (m : Moment) → length (entry_bytes m change) < 2 ^ 32
  pub file : IsFirstFile first held.room

-- beside the catalogue and the journal the room is as before, and a file of the journal is open
pub record IsEnteredFrom (old new : RoomView) : Type 0 where
  pub opens : new.is_open ≡ old.is_open
  pub sessions : new.sessions ≡ old.sessions
  pub drives : new.drives ≡ old.drives
  pub file : IsSome new.journal.current
