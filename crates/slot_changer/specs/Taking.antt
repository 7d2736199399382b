-- Which pieces a drive takes.
use Rattle.std.specs.Prelude.{◌≡◌, ℕ, ◌+◌, ◌*◌, ◌≤◌, Bool, true, false, Option, Some, None, length}
use Rattle.std.specs.Prelude.{nat_le}
use Rattle.chunk_mux.specs.Packing.{Fits, fits_in}
use Rattle.slot_changer.specs.Drives.{DriveView, HasFileRoom}

-- whether a piece of so many bytes fits the buffer of a drive as it is
abbrev pub fits : Option DriveView → ℕ → Bool
fits None count = false
fits (Some one) count = nat_le count (fits_in one.buffer)

-- Whether a volume has room for a file of 64 data blocks: where the piece fits the buffer, at the
-- mark place; where it doesn't, behind the file that the buffer's blocks make.
abbrev pub has_file_room : ℕ → ℕ → ℕ → ℕ → Bool → Bool
has_file_room mark blocks units capacity true = nat_le (mark + 64 * units + 2) capacity
has_file_room mark blocks units capacity false =
    nat_le (mark + units * blocks + 64 * units + 3) capacity

-- whether a drive takes a piece of so many bytes; an empty one takes nothing
abbrev pub takes : Option DriveView → ℕ → Bool
takes None count = false
takes (Some one) count =
    has_file_room one.volume.mark (length one.buffer.blocks) one.volume.label.units
    one.volume.label.capacity (fits (Some one) count)

-- A piece of so many bytes may be pushed into a drive: it fits the buffer, the volume has room for
-- a file of 64 data blocks at the mark place, and no commit has failed.
pub record CanPush (count : ℕ) (one : DriveView) : Type 0 where
  pub fits : Fits one.buffer count
  pub room : HasFileRoom one
  pub no_fault : one.failed ≡ false

-- a buffer may be committed: it isn't empty, and no commit has failed
pub record CanCommit (one : DriveView) : Type 0 where
  pub some : 1 ≤ length one.buffer.blocks
  pub no_fault : one.failed ≡ false
