-- Which file an effect writes or reads, what it makes of the file's bytes, and what is left of them
-- where it is cut short.
use Rattle.std.specs.Prelude.{◌≡◌, ◌≢◌, ℕ, ◌==◌, Bool, true, false, List, if◌then◌else◌}
use Rattle.std.specs.Prelude.{Option, Some, None, Result, Err}
use Rattle.std.specs.Option.{option_map}
use Rattle.room_disk.specs.Crash.{IsAnew, AnewTorn}
use Rattle.room_disk.specs.Disk.{Image}
use Rattle.volume_store.specs.Reads.{Finds, Mounts}
use Rattle.volume_store.specs.Writes.{cart_file, IsBeingLabelled, Relabels}
use Rattle.volume_store.specs.declared.commit.Volume.{Volume}
use Rattle.volume_store.specs.declared.marks.MountFault.{MountFault}
use Rattle.volume_store.specs.declared.marks.MountFault.TheVariants as mounts
use Rattle.cat_journal.specs.Journal.{
  JournalView,
  AddsEntry,
  MayAddEntry,
  file_of,
  new_text,
  next_file,
  next_head,
}
use Rattle.slot_changer.specs.Committing.{AddsBuffer, MayAddBuffer, cart_file_of}
use Rattle.slot_changer.specs.Drives.{DriveView}
use Rattle.room_effects.specs.View.{RoomView, held_in}
use Rattle.room_effects.specs.Effects.{
  Effect,
  Enter,
  EnterPart,
  TurnOver,
  Commit,
  Look,
  WriteLabel,
  Seen,
  SeenLabel,
  SeenVolume,
  entry_bytes,
  is_at_last,
  part_bytes,
}

-- ---- the file

-- the file that an effect writes or reads; one in memory has none
abbrev pub device_of : Effect → RoomView → Option ℕ
device_of (Enter m change) room = Some (file_of room.journal.current)
device_of (EnterPart m ssid part index) room = Some (file_of room.journal.current)
device_of (TurnOver snapshot) room =
    if is_at_last room.journal then None else Some (next_file room.journal.current)
device_of (Commit drive asking) room = option_map cart_file_of (held_in room drive)
device_of (Look cart seen) room = Some (cart_file cart)
device_of (WriteLabel label) room = Some (cart_file label.cart.0)
device_of _ room = None

abbrev pub is_file : ℕ → Option ℕ → Bool
is_file file None = false
is_file file (Some other) = other == file

-- whether the effect writes or reads this file
abbrev pub is_on : ℕ → Effect → RoomView → Bool
is_on file effect room = is_file file (device_of effect room)

abbrev pub file_or_none : Option ℕ → ℕ
file_or_none None = 0
file_or_none (Some file) = file

-- the file whose bytes are told of; those of file 0 are as before where the effect is in memory
abbrev pub target : Effect → RoomView → ℕ
target effect room = file_or_none (device_of effect room)

-- ---- its bytes

abbrev pub IsSame : List ℕ → List ℕ → Type 0
IsSame old new = new ≡ old

-- a turn-over writes a file anew, unless no generation comes next
abbrev pub TurnsOver : Bool → JournalView → List ℕ → List ℕ → List ℕ → Type 0
TurnsOver true journal snapshot = IsSame
TurnsOver false journal snapshot = IsAnew 0x4A (new_text (next_head journal) snapshot)

abbrev pub MayTurnOver : Bool → JournalView → List ℕ → List ℕ → List ℕ → Type 0
MayTurnOver true journal snapshot = IsSame
MayTurnOver false journal snapshot = AnewTorn 0x4A (new_text (next_head journal) snapshot)

abbrev pub Commits : Option DriveView → List ℕ → List ℕ → Type 0
Commits None = IsSame
Commits (Some one) = AddsBuffer one

abbrev pub MayCommit : Option DriveView → List ℕ → List ℕ → Type 0
MayCommit None = IsSame
MayCommit (Some one) = MayAddBuffer one

-- mounting a cartridge with these bytes gives this; a failure has seen nothing
abbrev pub IsMounted : ℕ → Result Volume MountFault → List ℕ → Type 0
IsMounted cart (Err mounts.Failed) bytes = ⊥
IsMounted cart answer bytes = Mounts bytes cart answer

-- this is found on a cartridge with these bytes
abbrev pub IsSeen : ℕ → Seen → List ℕ → Type 0
IsSeen cart (SeenLabel found) bytes = Finds bytes found
IsSeen cart (SeenVolume answer) bytes = IsMounted cart answer bytes

-- the cartridge's bytes are as before, and this is found on it
abbrev pub Sees : ℕ → Seen → List ℕ → List ℕ → Type 0
Sees cart seen old new = IsSame old new × IsSeen cart seen old

-- the file before and after the effect, once it is done
abbrev pub Whole : Effect → RoomView → List ℕ → List ℕ → Type 0
Whole (Enter m change) room = AddsEntry room.journal (entry_bytes m change)
Whole (EnterPart m ssid part index) room =
    AddsEntry room.journal (part_bytes m ssid part index)
Whole (TurnOver snapshot) room = TurnsOver (is_at_last room.journal) room.journal snapshot
Whole (Commit drive asking) room = Commits (held_in room drive)
Whole (Look cart seen) room = Sees cart seen
Whole (WriteLabel label) room = Relabels label
Whole _ room = IsSame

-- the same, where it is cut short or not begun at all
abbrev pub Torn : Effect → RoomView → List ℕ → List ℕ → Type 0
Torn (Enter m change) room = MayAddEntry room.journal (entry_bytes m change)
Torn (EnterPart m ssid part index) room =
    MayAddEntry room.journal (part_bytes m ssid part index)
Torn (TurnOver snapshot) room = MayTurnOver (is_at_last room.journal) room.journal snapshot
Torn (Commit drive asking) room = MayCommit (held_in room drive)
Torn (WriteLabel label) room = IsBeingLabelled label
Torn _ room = IsSame

-- ---- all files

-- P holds of this file before and after, and each other file is as before
pub record Touches (file : ℕ) (P : List ℕ → List ℕ → Type 0) (before image : Image) : Type 0 where
  pub others : (other : ℕ) → other ≢ file → image other ≡ before other
  pub this : P (before file) (image file)
