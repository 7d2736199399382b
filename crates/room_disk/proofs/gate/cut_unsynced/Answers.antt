use Rattle.room_disk.proofs.Writing.{changes_by}
use Rattle.room_disk.proofs.gate.cut_unsynced.Goals as goal

pub returns : goal.returns
returns g c =
    let made = c.cut.ensures in changes_by made.cause made.tells made.cut made.others made.torn made.moments
