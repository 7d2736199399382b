use Rattle.std.proofs.Common.{sym, subst}
use Rattle.cat_journal.specs.Opening.{IsBadFile}
use Rattle.cat_journal.specs.declared.opening.OpenFault.{OpenFault}
use Rattle.cat_journal.proofs.Opens.{front_checked, bad_file}
use Rattle.cat_journal.proofs.opening.check_front.Goals as goal

pub returns-then-branch-clause-found : goal.returns-then-branch-clause-found
returns-then-branch-clause-found g c = λ told found.
    let bytes = (g.D.Store.view c.args.store.now).reads c.args.file in
    front_checked bytes c.args.head.now found c.requires.head (rw c.if-branch.true at (c.in_ok-check_snapshot.ensures.found told))

pub returns-else-branch-clause-found : goal.returns-else-branch-clause-found
returns-else-branch-clause-found g c = λ told found.
    let bytes = (g.D.Store.view c.args.store.now).reads c.args.file in
    let P : OpenFault → Type 0 = IsBadFile c.args.file bytes in
    subst P (sym c.bad_front.ensures)
    (bad_file c.args.file bytes c.args.head.now found (rw c.if-branch.false at (c.in_ok-check_snapshot.ensures.found told)))
