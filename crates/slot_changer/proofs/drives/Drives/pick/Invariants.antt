use Rattle.slot_changer.proofs.Picking.{IsFirst}
use Rattle.slot_changer.proofs.drives.Drives.pick.Given as goal

abbrev pub invariant-loop-place : goal.invariant-loop-place
invariant-loop-place l = IsFirst l.held-items l.pool l.length l.busy l.barred l.place l.picked
