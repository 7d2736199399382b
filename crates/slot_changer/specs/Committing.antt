-- What the commit of a drive's buffer writes on its cartridge.
use Rattle.std.specs.Prelude.{◌≡◌, ℕ, ◌+◌, ◌*◌, List, ◌++◌, length}
use Rattle.volume_block.specs.Layout.{closed}
use Rattle.volume_block.specs.Valid.{mark_text}
use Rattle.volume_block.specs.Region.{blocks_text, closed_block}
use Rattle.room_disk.specs.Crash.{overlaid}
use Rattle.volume_store.specs.Committed.{Closed, Labelled, Committed, CommittedFile}
use Rattle.volume_store.specs.Writes.{cart_file, opened, with_file, IsWholeOrAbsent}
use Rattle.slot_changer.specs.Drives.{DriveView}

-- the file of the cartridge that the volume is on
abbrev pub cart_file_of : DriveView → ℕ
cart_file_of one = cart_file one.volume.cart.0

-- the region of the buffer's data blocks for the volume's mark place
abbrev pub region_of : DriveView → List ℕ
region_of one =
    closed (mark_text one.volume.label.volid.0 one.volume.mark (length one.buffer.blocks)
    one.volume.label.units)
    ++ blocks_text one.volume.label.volid.0 (one.volume.mark + 1) one.volume.label.units
    one.buffer.blocks ++ closed_block

-- The cartridge after the commit: the opened region stands at the mark place. Where the cartridge
-- had the volume's label and files that end there, it has one file more, with the buffer's blocks.
pub record AddsBuffer (one : DriveView) (old new : List ℕ) : Type 0 where
  pub written : new ≡ overlaid (4096 * one.volume.mark) (opened (region_of one)) old
  pub added : (files : List CommittedFile)
      → Committed old (Labelled one.volume.label files (Closed one.volume.mark))
      → Committed new
      (with_file one.volume.label files one.volume.mark one.buffer.blocks)

-- what a commit that may have been cut short leaves: the old files, or these and the new one
abbrev pub MayAddBuffer : DriveView → List ℕ → List ℕ → Type 0
MayAddBuffer one old new = (files : List CommittedFile)
    → Committed old (Labelled one.volume.label files (Closed one.volume.mark))
    → IsWholeOrAbsent one.volume.label files one.volume.mark one.buffer.blocks new
