-- The drives as contracts see them: four, each empty or with a volume.
use Rattle.std.specs.Prelude.{◌≡◌, ◌⊎◌, ℕ, ◌+◌, ◌-◌, ◌*◌, ◌≤◌, Bool, true, false, List, Option}
use Rattle.std.specs.Prelude.{Some, None, length, slice_index_or, slice_set, replicate}
use Rattle.std.specs.Option.{option_map}
use Rattle.volume_block.specs.Chunks.{all_chunks}
use Rattle.volume_block.specs.Valid.{IsLabel}
use Rattle.chunk_mux.specs.Packing.{BufferView, empty, pack}
use Rattle.chunk_mux.specs.Pushes.{has_set}
use Rattle.volume_store.specs.Writes.{IsCart}
use Rattle.volume_store.specs.declared.commit.Volume.{Volume}

-- a volume in a drive, the buffer of its next file, and whether a commit of it has failed
pub record DriveView : Type 0 where
  pub volume : Volume
  pub buffer : BufferView
  pub failed : Bool

-- ---- the drives

-- there is such a drive
abbrev pub IsDrive : ℕ → Type 0
IsDrive drive = (1 ≤ drive) × (drive ≤ 4)

-- four empty drives
abbrev pub no_volumes : List (Option DriveView)
no_volumes = replicate 4 None

-- what is in a drive
abbrev pub in_drive : List (Option DriveView) → ℕ → Option DriveView
in_drive drives drive = slice_index_or drives (drive - 1) None

-- the drives with this in one of them; the others stay
abbrev pub set_drive : List (Option DriveView) → ℕ → Option DriveView → List (Option DriveView)
set_drive drives drive held = slice_set drives (drive - 1) held

-- the drives with what is in one of them changed; the others stay
abbrev pub change_drive : List (Option DriveView) → ℕ → (DriveView → DriveView)
    → List (Option DriveView)
change_drive drives drive change =
    set_drive drives drive (option_map change (in_drive drives drive))

-- ---- what is in a drive

-- its volume
abbrev pub volume_of : DriveView → Volume
volume_of one = one.volume

-- how many data blocks its buffer has
abbrev pub blocks_in : Option DriveView → ℕ
blocks_in None = 0
blocks_in (Some one) = length one.buffer.blocks

-- whether its buffer has a chunk of the save set
abbrev pub holds_set : Option DriveView → ℕ → Bool
holds_set None ssid = false
holds_set (Some one) ssid = has_set ssid (all_chunks one.buffer.blocks)

-- whether a commit of its buffer has failed
abbrev pub has_failed : Option DriveView → Bool
has_failed None = false
has_failed (Some one) = one.failed

-- the volume has room for a file of 64 data blocks at its mark place
abbrev pub HasFileRoom : DriveView → Type 0
HasFileRoom one = one.volume.mark + 64 * one.volume.label.units + 2 ≤ one.volume.label.capacity

-- The volume has a label that may be written, and a mark place. The buffer has data blocks of the
-- volume's size, and where it has some, the volume has room for as many as it can have.
pub record IsMounted (one : DriveView) : Type 0 where
  pub cart : IsCart one.volume.cart.0
  pub label : IsLabel one.volume.label
  pub mark : 1 ≤ one.volume.mark
  pub units : one.buffer.units ≡ one.volume.label.units
  pub room : 1 ≤ length one.buffer.blocks → HasFileRoom one

-- the drive may be emptied: its buffer has nothing, or its volume failed
abbrev pub MayTakeOut : Option DriveView → Type 0
MayTakeOut None = Unit {0}
MayTakeOut (Some one) = (length one.buffer.blocks ≡ 0) ⊎ (one.failed ≡ true)

-- ---- what calls make of it

-- a volume with an empty buffer
abbrev pub mounted : Volume → DriveView
mounted volume = record { volume = volume; buffer = empty volume.label.units; failed = false }

-- a piece of a copy of a save set is put into the buffer
abbrev pub after_push : ℕ → ℕ → ℕ → List ℕ → DriveView → DriveView
after_push ssid copy offset piece one =
    record one { buffer = pack one.buffer ssid copy offset piece }

-- the buffer is on the volume, whose mark place is behind it
abbrev pub after_commit : DriveView → DriveView
after_commit one = record one {
  volume = record one.volume {
    mark = one.volume.mark + one.volume.label.units * length one.buffer.blocks + 1;
  };
  buffer = empty one.buffer.units;
}

-- a commit has failed
abbrev pub after_fault : DriveView → DriveView
after_fault one = record one { failed = true }
