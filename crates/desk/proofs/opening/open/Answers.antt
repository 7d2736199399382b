use Rattle.std.proofs.Common.{sym, subst}
use Rattle.room_effects.specs.View.{RoomView}
use Rattle.desk.specs.Runs.{FailsToOpen}
use Rattle.desk.specs.declared.end.DeskEnd.{DeskEnd}
use Rattle.desk.proofs.Opened.{fails_by}
use Rattle.desk.proofs.opening.open.Goals as goal

pub returns-in-Err-clause-fails : goal.returns-in-Err-clause-fails
returns-in-Err-clause-fails g c =
    let before = g.D.Store.view c.args.disk.now in
    let now = g.D.Store.view c.open.new.store in
    let F : DeskEnd → Type 0 = λ end. FailsToOpen end before now in
    subst F (sym c.end_of.ensures) (fails_by {T = RoomView} c.in-Err.fault before now c.in-Err.ensures.refused c.in-Err.ensures.cause c.in-Err.ensures.quiet)
