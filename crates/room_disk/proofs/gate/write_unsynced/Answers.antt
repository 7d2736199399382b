use Rattle.room_disk.proofs.Writing.{changes_by}
use Rattle.room_disk.proofs.gate.write_unsynced.Goals as goal

pub returns-clause-changes : goal.returns-clause-changes
returns-clause-changes g c =
    let made = c.write_at.ensures in changes_by made.cause made.tells made.written made.others made.torn made.moments
