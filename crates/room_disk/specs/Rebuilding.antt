-- How the files of a store in memory are made those that a crash leaves, in the room that they
-- have.
use Rattle.std.specs.Prelude.{◌≡◌, ◌≤◌, List, length}
use Rattle.room_disk.specs.declared.disk_event.DiskEvent.{DiskEvent}
use Rattle.room_disk.specs.declared.mem_file.MemFile.{MemFile}
use Rattle.room_disk.specs.declared.part.Part.{Part}
use Rattle.room_disk.specs.Crashed.{rebuilt}
use Rattle.room_disk.specs.Kept.{LieWithin}

-- the file has room for all that was done to it
pub record CanRebuild (events : List DiskEvent) (file : MemFile) : Type 0 where
  pub within : length file.first.bytes ≤ file.now.room
  pub room : file.now.room ≤ file.first.room
  pub fits : LieWithin file.now.room file.number events

-- the file reads what the crash leaves, and did so at first
pub record IsRebuilt (part : Part) (events : List DiskEvent) (old new : MemFile) : Type 0 where
  pub number : new.number ≡ old.number
  pub first : new.first.bytes ≡ rebuilt part old.number old.first.bytes events
  pub now : new.now.bytes ≡ rebuilt part old.number old.first.bytes events
  pub within : length new.first.bytes ≤ new.now.room
  pub room : new.now.room ≤ new.first.room
