-- One image that a crash may leave, by what it has done of each write and cut since the last sync
-- of its file.
use Rattle.std.specs.Prelude.{◌==◌, ℕ, suc, ◌-◌, ◌/◌, List, [], ◌∷◌, ◌++◌, length, take, drop}
use Rattle.std.specs.Prelude.{replicate, if◌then◌else◌}
use Rattle.room_disk.specs.declared.disk_event.DiskEvent.{DiskEvent}
use Rattle.room_disk.specs.declared.disk_event.DiskEvent.TheVariants.{Written, Cut, Synced}
use Rattle.room_disk.specs.declared.part.Part.{Part}
use Rattle.room_disk.specs.declared.part.Part.TheVariants.{Nothing, All, Spoiled, FirstHalf}
use Rattle.room_disk.specs.Crash.{overlaid}
use Rattle.room_disk.specs.Disk.{Image}
use Rattle.room_disk.specs.Past.{read_after}

-- 0: nothing of them, 1: all, 2: their ranges full of 0xFF, 3: the first half of each write
abbrev pub part_of : ℕ → Part
part_of choice =
    if choice == 0 then Nothing
    else (if choice == 1 then All else (if choice == 2 then Spoiled else FirstHalf))

abbrev pub partly_written : Part → ℕ → List ℕ → List ℕ → List ℕ
partly_written Nothing at bytes file = file
partly_written All at bytes file = overlaid at bytes file
partly_written Spoiled at bytes file = overlaid at (replicate (length bytes) 0xFF) file
partly_written FirstHalf at bytes file = overlaid at (take (length bytes / 2) bytes) file

-- a range that was cut stays full of 0xFF where it is spoiled
abbrev pub partly_cut : Part → ℕ → List ℕ → List ℕ
partly_cut Nothing to file = file
partly_cut All to file = take to file
partly_cut Spoiled to file = take to file ++ replicate (length file - to) 0xFF
partly_cut FirstHalf to file = take to file

-- a part of the event is done to the file's bytes, if it is a write or a cut of this file
abbrev pub partly_done : Part → ℕ → DiskEvent → List ℕ → List ℕ
partly_done part file (Written other at bytes) old =
    if other == file then partly_written part at bytes old else old
partly_done part file (Cut other to) old = if other == file then partly_cut part to old else old
partly_done part file (Synced other) old = old

-- a part of each of the events is done, of which the newest stands first
abbrev pub all_partly_done : Part → ℕ → List ℕ → List DiskEvent → List ℕ
all_partly_done part file old [] = old
all_partly_done part file old (event ∷ older) =
    partly_done part file event (all_partly_done part file old older)

-- what the crash leaves of a file
abbrev pub crashed_file : Part → Image → List DiskEvent → Image
crashed_file part first [] file = first file
crashed_file part first (Written other at bytes ∷ older) file =
    partly_done part file (Written other at bytes) (crashed_file part first older file)
crashed_file part first (Cut other to ∷ older) file =
    partly_done part file (Cut other to) (crashed_file part first older file)
crashed_file part first (Synced other ∷ older) file =
    if other == file then read_after first older file else crashed_file part first older file

-- how many events were recorded since the last sync of the file
abbrev pub unsynced : ℕ → List DiskEvent → ℕ
unsynced file [] = 0
unsynced file (Written other at bytes ∷ older) = suc (unsynced file older)
unsynced file (Cut other to ∷ older) = suc (unsynced file older)
unsynced file (Synced other ∷ older) = if other == file then 0 else suc (unsynced file older)

-- all events up to the last sync of the file are done, and a part of each event since
abbrev pub rebuilt : Part → ℕ → List ℕ → List DiskEvent → List ℕ
rebuilt part file first events =
    let count = unsynced file events in
    all_partly_done part file (all_partly_done All file first (drop count events))
    (take count events)
