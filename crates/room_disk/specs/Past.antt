-- What a store in memory has recorded, newest first: what each file reads after it, and what a
-- crash may leave.
use Rattle.std.specs.Prelude.{◌≡◌, ◌≢◌, ◌⊎◌, ◌==◌, ℕ, ◌≤◌, List, [], ◌∷◌, length, take}
use Rattle.std.specs.Prelude.{if◌then◌else◌}
use Rattle.room_disk.specs.declared.disk_event.DiskEvent.{DiskEvent}
use Rattle.room_disk.specs.declared.disk_event.DiskEvent.TheVariants.{Written, Cut, Synced}
use Rattle.room_disk.specs.Crash.{overlaid, Torn, CutShort}
use Rattle.room_disk.specs.Disk.{Image}

-- what the files read at first, where that isn't empty, and the calls that changed something since
pub record Past : Type 0 where
  pub first : List (ℕ × List ℕ)
  pub events : List DiskEvent

-- the bytes of the first of the listed files that has the number; a file that isn't listed is empty
abbrev pub listed : List (ℕ × List ℕ) → Image
listed [] file = []
listed (one ∷ rest) file = if one.0 == file then one.1 else listed rest file

-- what a file reads after the events
abbrev pub read_after : Image → List DiskEvent → Image
read_after first [] file = first file
read_after first (Written other at bytes ∷ older) file =
    if other == file then overlaid at bytes (read_after first older file)
    else read_after first older file
read_after first (Cut other to ∷ older) file =
    if other == file then take to (read_after first older file) else read_after first older file
read_after first (Synced other ∷ older) file = read_after first older file

-- a crash after a event on the file leaves what a step makes of what it might have left before
abbrev pub Steps : ℕ → ℕ → (List ℕ → Type 0) → (List ℕ → List ℕ → Type 0) → List ℕ → Type 0
Steps other file before step bytes =
    ((other ≡ file) × ((earlier : List ℕ) × before earlier × step earlier bytes))
    ⊎ ((other ≢ file) × before bytes)

-- what a crash after the events may leave of a file: what was synced last, with any part of each
-- event since
abbrev pub MayLeave : Image → List DiskEvent → ℕ → List ℕ → Type 0
MayLeave first [] file bytes = bytes ≡ first file
MayLeave first (Written other at piece ∷ older) file bytes =
    Steps other file (MayLeave first older file) (Torn at piece) bytes
MayLeave first (Cut other to ∷ older) file bytes =
    Steps other file (MayLeave first older file) (CutShort to) bytes
MayLeave first (Synced other ∷ older) file bytes =
    ((other ≡ file) × (bytes ≡ read_after first older file))
    ⊎ ((other ≢ file) × MayLeave first older file bytes)

-- a crash after the events may leave the image
abbrev pub LeavesImage : Image → List DiskEvent → Image → Type 0
LeavesImage first events image = (file : ℕ) → MayLeave first events file (image file)

-- a crash after the first so many events, or later, might have left the image
abbrev pub MightHaveLeft : Image → List DiskEvent → ℕ → Image → Type 0
MightHaveLeft first [] moment image = (moment ≡ 0) × LeavesImage first [] image
MightHaveLeft first (event ∷ older) moment image =
    ((moment ≤ length (event ∷ older)) × LeavesImage first (event ∷ older) image)
    ⊎ MightHaveLeft first older moment image
