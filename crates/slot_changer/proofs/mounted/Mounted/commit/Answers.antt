use Rattle.slot_changer.specs.Inside.{drive_view}
use Rattle.slot_changer.proofs.Committing.{writes_buffer}
use Rattle.slot_changer.proofs.mounted.Mounted.commit.Goals as goal

pub returns-in-Ok-clause-writes : goal.returns-in-Ok-clause-writes
returns-in-Ok-clause-writes g c = rw (← c.self.view_is)
    (writes_buffer (drive_view c.self.inside) c.seal-region.result.now c.self.invariant.units c.seal-region.ensures.sealed
    c.in-Ok.ensures.writes)

pub returns-in-Err-clause-writes : goal.returns-in-Err-clause-writes
returns-in-Err-clause-writes g c = rw (← c.self.view_is)
    (writes_buffer (drive_view c.self.inside) c.seal-region.result.now c.self.invariant.units c.seal-region.ensures.sealed
    c.in-Err.ensures.writes)
