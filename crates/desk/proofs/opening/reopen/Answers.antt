use Rattle.std.proofs.Common.{sym, subst}
use Rattle.desk.specs.Runs.{FailsToOpen}
use Rattle.desk.specs.declared.end.DeskEnd.{DeskEnd}
use Rattle.desk.proofs.Opened.{fails_by}
use Rattle.desk.proofs.opening.reopen.Goals as goal

pub returns-in-Err-clause-reopens : goal.returns-in-Err-clause-reopens
returns-in-Err-clause-reopens g c = λ closed.
    let before = g.D.Store.view c.args.disk.now in
    let now = g.D.Store.view c.reopen.new.store in
    let F : DeskEnd → Type 0 = λ end. FailsToOpen end before now in
    let fails = subst F (sym c.end_of.ensures) (fails_by {T = Unit {0}} c.in-Err.fault before now c.in-Err.ensures.refused c.in-Err.ensures.cause c.in-Err.ensures.quiet) in
    ((c.in-Err.ensures.kept, fails), record { tells = c.in-Err.ensures.tells; later = c.in-Err.ensures.cause.later; quiet = c.in-Err.ensures.quiet })
