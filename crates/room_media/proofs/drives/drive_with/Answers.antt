use Rattle.room_media.proofs.Finding.{found_drive, in_none}
use Rattle.room_media.proofs.drives.drive_with.Goals as goal

pub returns-clause-drive : goal.returns-clause-drive
returns-clause-drive c = found_drive c.args.cart.0 c.args.room.now.room c.drive_with.result c.is_open-is_open.ensures.room c.drive_with.ensures

pub returns-clause-none : goal.returns-clause-none
returns-clause-none c none = in_none c.args.cart.0 c.args.room.now.room c.drive_with.result none c.drive_with.ensures
