-- What opening a room gives.
use Rattle.std.specs.Prelude.{◌≡◌, Result, Ok, Err}
use Rattle.room_base.specs.Outside.{Told}
use Rattle.room_disk.specs.Disk.{DiskView, Image}
use Rattle.cat_journal.specs.Images.{IsJournal}
use Rattle.room_catalog.specs.Invariant.{IsHeld}
use Rattle.room_effects.specs.View.{IsJournalOf, RoomView, opened_room}
use Rattle.journal_files.specs.Files.{IsDamaged, ReplaysTo}
use Rattle.journal_replay.specs.declared.fault.ReplayFault.{ReplayFault}
use Rattle.journal_replay.specs.declared.fault.ReplayFault.TheVariants as faults
use Rattle.room_turns.specs.Runs.{Reopening}

-- The room is open, without sessions and with empty drives. Its catalogue is what the journal's files
-- replay to, and its journal is theirs, with nothing pending.
pub record IsOpenedBy (room : RoomView) (before now : DiskView) : Type 0 where
  pub opening : Reopening
  pub room_is : room ≡ opened_room opening.catalogue opening.journal
  pub held : IsHeld opening.catalogue
  pub fits : IsJournalOf opening.catalogue (record opening.journal { spare = 0 })
  pub replays : Told before.tells (ReplaysTo before.reads opening.catalogue)
  pub journal : Told before.tells (IsJournal opening.journal now)

-- the journal is damaged where it is said to be
abbrev pub IsRefusedBy : {T : Type 0} → Image → Result T ReplayFault → Type 0
IsRefusedBy files (Err (faults.Damaged file place)) = IsDamaged files file place
IsRefusedBy files result = Unit {0}
