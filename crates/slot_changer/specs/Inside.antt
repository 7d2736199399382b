-- The fields of drives, and what is true of them.
use Rattle.std.specs.Prelude.{List, Option}
use Rattle.slot_changer.specs.Drives.{DriveView, IsMounted}
use Rattle.slot_changer.specs.declared.mounted.Mounted.TheInside as mounted
use Rattle.slot_changer.specs.declared.drives.Drives.TheInside as drives

abbrev pub drive_view : mounted.Inside → DriveView
drive_view inside = record {
  volume = inside.volume;
  buffer = inside.buffer;
  failed = inside.failed;
}

abbrev pub IsDriveInside : mounted.Inside → Type 0
IsDriveInside inside = IsMounted (drive_view inside)

abbrev pub drives_view : drives.Inside → List (Option DriveView)
drives_view inside = inside.drives
