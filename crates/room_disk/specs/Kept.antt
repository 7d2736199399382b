-- How a store in memory keeps its files: in room that is never given back, beside the events.
use Rattle.std.specs.Prelude.{◌≡◌, ◌≢◌, ◌==◌, ℕ, ◌+◌, ◌<◌, ◌≤◌, List, [], ◌∷◌, length}
use Rattle.std.specs.Prelude.{slice_index_or, if◌then◌else◌}
use Rattle.room_disk.specs.declared.disk_event.DiskEvent.{DiskEvent}
use Rattle.room_disk.specs.declared.disk_event.DiskEvent.TheVariants.{Written, Cut, Synced}
use Rattle.room_disk.specs.declared.mem_file.MemFile.{MemFile}
use Rattle.room_disk.specs.Held.{blank}
use Rattle.room_disk.specs.Disk.{Image}
use Rattle.room_disk.specs.Past.{listed, read_after}

-- a file that has no bytes and no room
abbrev pub blank_file : ℕ → MemFile
blank_file file = record { number = file; first = blank; now = blank }

-- the first file with the number, or a blank one
abbrev pub kept_file : ℕ → List MemFile → MemFile
kept_file file [] = blank_file file
kept_file file (one ∷ rest) = if one.number == file then one else kept_file file rest

-- the number and the bytes, unless there are none
abbrev pub with_bytes : ℕ → List ℕ → List (ℕ × List ℕ) → List (ℕ × List ℕ)
with_bytes number [] rest = rest
with_bytes number (byte ∷ bytes) rest = (number, byte ∷ bytes) ∷ rest

-- what the files read at first, where that isn't empty
abbrev pub first_bytes : List MemFile → List (ℕ × List ℕ)
first_bytes [] = []
first_bytes (one ∷ rest) = with_bytes one.number one.first.bytes (first_bytes rest)

-- each write on the file lies within the room
abbrev pub LieWithin : ℕ → ℕ → List DiskEvent → Type 0
LieWithin room file [] = Unit {0}
LieWithin room file (Written other at bytes ∷ older) =
    (other ≡ file → at + length bytes ≤ room) × LieWithin room file older
LieWithin room file (Cut other to ∷ older) = LieWithin room file older
LieWithin room file (Synced other ∷ older) = LieWithin room file older

-- A file as it is kept: what it read at first, what it reads now, and room for what it ever had.
pub record IsFileKept (base : Image) (events : List DiskEvent) (file : ℕ)
    (kept : MemFile) : Type 0 where
  pub number : kept.number ≡ file
  pub first : kept.first.bytes ≡ base file
  pub now : kept.now.bytes ≡ read_after base events file
  pub within : length kept.first.bytes ≤ kept.now.room
  pub room : kept.now.room ≤ kept.first.room
  pub fits : LieWithin kept.now.room file events

abbrev pub AreKept : List (ℕ × List ℕ) → List DiskEvent → List MemFile → Type 0
AreKept first events files =
    (file : ℕ) → IsFileKept (listed first) events file (kept_file file files)

-- no file has the number
abbrev pub NoneHas : ℕ → List MemFile → Type 0
NoneHas number files =
    (index : ℕ) (other : MemFile) → index < length files
    → (slice_index_or files index other).number ≢ number

-- no two files have one number
abbrev pub IsDistinct : List MemFile → Type 0
IsDistinct [] = Unit {0}
IsDistinct (one ∷ rest) = NoneHas one.number rest × IsDistinct rest

-- how a store in memory keeps its files
pub record AreFilesKept (first : List (ℕ × List ℕ)) (events : List DiskEvent)
    (files : List MemFile) : Type 0 where
  pub each : AreKept first events files
  pub distinct : IsDistinct files

-- the file reads as before, and has no less room
pub record HasGrown (old new : MemFile) : Type 0 where
  pub number : new.number ≡ old.number
  pub first : new.first.bytes ≡ old.first.bytes
  pub now : new.now.bytes ≡ old.now.bytes
  pub more : old.now.room ≤ new.now.room
  pub room : new.now.room ≤ new.first.room

-- the index of the first file that has the number
pub record IsFirst (file : ℕ) (files : List MemFile) (index : ℕ) : Type 0 where
  pub below : index < length files
  pub number : (other : MemFile) → (slice_index_or files index other).number ≡ file
  pub before : (earlier : ℕ) (other : MemFile) → earlier < index
      → (slice_index_or files earlier other).number ≢ file

-- the same files under each number, which read the same at first
pub record HasSameFiles (old new : List MemFile) : Type 0 where
  pub each : (number : ℕ) → kept_file number new ≡ kept_file number old
  pub first : first_bytes new ≡ first_bytes old

-- each file reads as before, and has no less room
pub record HasGrownFiles (old new : List MemFile) : Type 0 where
  pub each : (number : ℕ) → HasGrown (kept_file number old) (kept_file number new)
  pub first : first_bytes new ≡ first_bytes old

-- what a file read at first has no less room than what it reads now
abbrev pub HasRoomBehind : List MemFile → Type 0
HasRoomBehind files =
    (number : ℕ) → (kept_file number files).now.room ≤ (kept_file number files).first.room
