-- What happens to a room over many calls, and over the reopenings behind faults of its journal.
use Rattle.std.specs.Prelude.{◌≡◌, ℕ, ◌+◌, ◌==◌, false, IsTrue, List, [], ◌∷◌, ◌++◌}
use Rattle.std.specs.Prelude.{Option, Some, None, if◌then◌else◌}
use Rattle.cat_journal.specs.Journal.{JournalView}
use Rattle.catalog_spelling.specs.Changes.{Stamped}
use Rattle.room_catalog.specs.Held.{CatalogueLists}
use Rattle.room_catalog.specs.Invariant.{IsHeld}
use Rattle.room_effects.specs.View.{IsJournalOf, RoomView, opened_room}
use Rattle.room_effects.specs.Effects.{Deed, Done, Broken, after, after_all}
use Rattle.room_effects.specs.Running.{entered, failures}
use Rattle.room_turns.specs.Steps.{Call, IsAnswer}

-- ---- what was entered

-- the changes that were entered and stand
abbrev pub stood : List Deed → RoomView → List Stamped
stood [] room = []
stood (Done effect ∷ deeds) room =
    entered (Done effect) room ++ stood deeds (after (Done effect) room)
stood (Broken effect ∷ deeds) room = stood deeds (after (Broken effect) room)

-- the change whose entry failed, if one did
abbrev pub failed : List Deed → RoomView → List Stamped
failed [] room = []
failed (Done effect ∷ deeds) room = failed deeds (after (Done effect) room)
failed (Broken effect ∷ deeds) room =
    entered (Broken effect) room ++ failed deeds (after (Broken effect) room)

-- ---- runs

-- the room was opened again
pub record Reopening : Type 0 where
  pub catalogue : CatalogueLists
  pub journal : JournalView

-- a call, what was done for it, and the reopening that came next, if one did
pub record Passage : Type 0 where
  pub call : Call
  pub deeds : List Deed
  pub reopening : Option Reopening

abbrev pub reopened : Option Reopening → RoomView → RoomView
reopened None room = room
reopened (Some reopening) room = opened_room reopening.catalogue reopening.journal

abbrev pub behind : Passage → RoomView → RoomView
behind one room = reopened one.reopening (after_all one.deeds room)

abbrev pub behind_all : List Passage → RoomView → RoomView
behind_all [] room = room
behind_all (one ∷ more) room = behind_all more (behind one room)

-- A room was reopened only where a fault of its journal had closed it, and with a journal that fits
-- the catalogue.
abbrev pub IsReopened : Option Reopening → RoomView → Type 0
IsReopened None room = Unit {0}
IsReopened (Some reopening) room = (room.is_open ≡ false) × IsHeld reopening.catalogue
    × IsJournalOf reopening.catalogue (record reopening.journal { spare = 0 })

-- each call was of an open room, and answered by a plan of its command
abbrev pub AreAnswered : List Passage → RoomView → Type 0
AreAnswered [] room = Unit {0}
AreAnswered (one ∷ more) room = IsTrue room.is_open × IsAnswer one.call room one.deeds
    × IsReopened one.reopening (after_all one.deeds room) × AreAnswered more (behind one room)

-- Where the room was reopened the entry that had failed stands, or doesn't: the catalogue has the
-- next number, or the one that it had.
abbrev pub found_again : Option Reopening → ℕ → List Stamped → List Stamped
found_again None number entry = []
found_again (Some reopening) number entry =
    if reopening.catalogue.number == number then [] else entry

-- the changes that stand behind a passage
abbrev pub stands_behind : Passage → RoomView → List Stamped
stands_behind one room = stood one.deeds room
    ++ found_again one.reopening (after_all one.deeds room).catalogue.number (failed one.deeds room)

-- the trail of a run: the changes that stand, in order
abbrev pub trail_of : List Passage → RoomView → List Stamped
trail_of [] room = []
trail_of (one ∷ more) room = stands_behind one room ++ trail_of more (behind one room)

-- the change whose entry failed in the last passage, unless the room was reopened since
abbrev pub unless_reopened : Option Reopening → List Stamped → List Stamped
unless_reopened None entry = entry
unless_reopened (Some reopening) entry = []

abbrev pub left_open : List Passage → RoomView → List Stamped
left_open [] room = []
left_open (one ∷ []) room = unless_reopened one.reopening (failed one.deeds room)
left_open (one ∷ next ∷ more) room = left_open (next ∷ more) (behind one room)

-- how many calls on a file failed
abbrev pub failures_in : ℕ → List Passage → RoomView → ℕ
failures_in file [] room = 0
failures_in file (one ∷ more) room =
    failures file one.deeds room + failures_in file more (behind one room)
