-- What a desk does.
use Rattle.std.specs.Prelude.{◌≡◌, ◌⊎◌, ℕ, ◌+◌, ◌≤◌, Bool, false, IsTrue, List, [], ◌∷◌, ◌++◌}
use Rattle.room_base.specs.Faults.{Rose}
use Rattle.room_base.specs.Outside.{AddsFront, ClockView, SinkView, SourceView, Told}
use Rattle.room_disk.specs.Disk.{DiskView, Quiet}
use Rattle.cat_journal.specs.Journal.{IsJournalFile}
use Rattle.room_catalog.specs.Held.{CatalogueLists}
use Rattle.room_catalog.specs.Invariant.{IsHeld}
use Rattle.room_effects.specs.View.{IsJournalOf, RoomView, opened_room}
use Rattle.room_effects.specs.Running.{risen_by}
use Rattle.journal_files.specs.Files.{IsDamaged, ReplaysTo}
use Rattle.room_turns.specs.Runs.{Passage, Reopening, failures_in}
use Rattle.room_turns.specs.Served.{Leads, Served}
use Rattle.desk.specs.Exchanges.{AreAsked, AreTimed, Exchange, answer_text, passages_of}
use Rattle.desk.specs.Exchanges.{requests_of, text_of}
use Rattle.desk.specs.Headline.{AllReopenAs, Headline}
use Rattle.desk.specs.Taken.{HasTaken}
use Rattle.desk.specs.declared.end.DeskEnd.{DeskEnd}
use Rattle.desk.specs.declared.end.DeskEnd.TheVariants as ends

-- ---- what is around a desk

pub record Around : Type 1 where
  pub input : SourceView
  pub out : SinkView
  pub clock : ClockView
  pub disk : DiskView

abbrev pub around : SourceView → SinkView → ClockView → DiskView → Around
around input out clock disk = record { input = input; out = out; clock = clock; disk = disk }

-- no count of faults fell, and what tells its contents still does
pub record Stays (before now : Around) : Type 0 where
  pub input : before.input.faults ≤ now.input.faults
  pub out : before.out.faults ≤ now.out.faults
  pub clock : before.clock.faults ≤ now.clock.faults
  pub input_tells : now.input.tells ≡ before.input.tells
  pub out_tells : now.out.tells ≡ before.out.tells
  pub clock_tells : now.clock.tells ≡ before.clock.tells

-- ---- what was written

-- all replies, in order
abbrev pub WritesAll : List Exchange → List ℕ → List ℕ → Type 0
WritesAll exchanges old new = new ≡ old ++ text_of exchanges

-- all but the last
pub record WritesOthers (exchanges : List Exchange) (old new : List ℕ) : Type 0 where
  pub others : List Exchange
  pub last : Exchange
  pub parts : exchanges ≡ others ++ last ∷ []
  pub written : new ≡ old ++ text_of others

-- all but the last, and a front of that
pub record WritesFront (exchanges : List Exchange) (old new : List ℕ) : Type 0 where
  pub others : List Exchange
  pub last : Exchange
  pub parts : exchanges ≡ others ++ last ∷ []
  pub front : AddsFront (old ++ text_of others) new (answer_text last)

abbrev pub HasWritten : DeskEnd → List Exchange → List ℕ → List ℕ → Type 0
HasWritten ends.WriteFault exchanges old new = WritesFront exchanges old new
HasWritten ends.Memory exchanges old new =
    WritesAll exchanges old new ⊎ WritesOthers exchanges old new
HasWritten _ exchanges old new = WritesAll exchanges old new

-- ---- why it ended

-- Opening a room on this disk failed so. Want of memory has no other cause.
abbrev pub FailsToOpen : DeskEnd → DiskView → DiskView → Type 0
FailsToOpen ends.Memory before now = Unit {0}
FailsToOpen ends.DiskFault before now =
    (file : ℕ) × IsJournalFile file × Rose (before.faults file) (now.faults file)
FailsToOpen (ends.DamagedJournal file place) before now =
    Told before.tells (IsDamaged now.reads file place)
FailsToOpen _ before now = ⊥

abbrev pub HasEnded : DeskEnd → Around → Around → Type 0
HasEnded ends.ReadFault before now = Rose before.input.faults now.input.faults
HasEnded ends.WriteFault before now = Rose before.out.faults now.out.faults
HasEnded ends.ClockFault before now = Rose before.clock.faults now.clock.faults
HasEnded ends.DiskFault before now = FailsToOpen ends.DiskFault before.disk now.disk
HasEnded (ends.DamagedJournal file place) before now =
    FailsToOpen (ends.DamagedJournal file place) before.disk now.disk
HasEnded _ before now = Unit {0}

-- ---- all but the room

-- What went in and out: which requests were read and answered, by what they ask for, each call at
-- its moment, and which replies were written.
pub record Trades (end : DeskEnd) (exchanges : List Exchange) (before now : Around) : Type 0 where
  pub asked : AreAsked exchanges
  pub input : Told before.input.tells
      (HasTaken end (requests_of exchanges) before.input now.input)
  pub moments : Told before.clock.tells
      (AreTimed before.clock.moments (passages_of exchanges) now.clock.moments)
  pub out : Told before.out.tells
      (HasWritten end exchanges before.out.written now.out.written)
  pub stays : Stays before now
  pub ended : HasEnded end before now

-- ---- the room

-- Where the room couldn't be opened again a fault of the journal has closed it. At want of memory,
-- and where the output failed, it may be closed or not.
abbrev pub IsLeft : DeskEnd → Bool → Type 0
IsLeft ends.DiskFault is_open = is_open ≡ false
IsLeft (ends.DamagedJournal file place) is_open = is_open ≡ false
IsLeft ends.Memory is_open = Unit {0}
IsLeft ends.WriteFault is_open = Unit {0}
IsLeft _ is_open = IsTrue is_open

-- Opening the room again failed beside the calls: a count of the journal rose once more than by what
-- failed in them.
abbrev pub FailsBeside : DeskEnd → List Passage → RoomView → DiskView → DiskView → Type 0
FailsBeside ends.DiskFault passages room before now = (file : ℕ) × IsJournalFile file
    × (risen_by (failures_in file passages room + 1) (before.faults file) ≤ now.faults file)
FailsBeside _ passages room before now = Unit {0}

-- from an open room on
pub record Serves (end : DeskEnd) (old new : RoomView) (before now : Around) : Type 0 where
  pub exchanges : List Exchange
  pub trades : Trades end exchanges before now
  pub served : Served (passages_of exchanges) old new before.disk now.disk
  pub left : IsLeft end new.is_open
  pub beside : FailsBeside end (passages_of exchanges) old before.disk now.disk

-- The room was opened, with the catalogue that the journal's files replayed to, and these are the
-- calls of it.
pub record RunsRoom (end : DeskEnd) (passages : List Passage) (before now : DiskView)
    : Type 0 where
  pub opening : Reopening
  pub held : IsHeld opening.catalogue
  pub fits : IsJournalOf opening.catalogue (record opening.journal { spare = 0 })
  pub replays : Told before.tells (ReplaysTo before.reads opening.catalogue)
  pub room : RoomView
  pub served : Served passages (opened_room opening.catalogue opening.journal) room before now
  pub leads : Told before.tells
      (Leads passages (opened_room opening.catalogue opening.journal) room before now)
  pub left : IsLeft end room.is_open
  pub beside : FailsBeside end passages (opened_room opening.catalogue opening.journal) before now
  pub headline : Told before.tells ((entry : CatalogueLists) → AllReopenAs before entry
      → Headline passages entry (opened_room opening.catalogue opening.journal) room before now)

-- The room wasn't opened, and nothing was done.
pub record OpensNoRoom (end : DeskEnd) (passages : List Passage) (before now : DiskView)
    : Type 0 where
  pub fails : FailsToOpen end before now
  pub none : passages ≡ []
  pub tells : now.tells ≡ before.tells
  pub later : (file : ℕ) → before.faults file ≤ now.faults file
  pub quiet : Told before.tells (Quiet before now)

-- ---- the whole

pub record DeskRuns (end : DeskEnd) (before now : Around) : Type 0 where
  pub exchanges : List Exchange
  pub trades : Trades end exchanges before now
  pub room : RunsRoom end (passages_of exchanges) before.disk now.disk
      ⊎ OpensNoRoom end (passages_of exchanges) before.disk now.disk
