use Rattle.std.proofs.Common.{sym, subst}
use Rattle.cat_journal.specs.Opening.{IsBadFile}
use Rattle.cat_journal.specs.declared.opening.OpenFault.{OpenFault}
use Rattle.cat_journal.proofs.HeadsRead.{has_front}
use Rattle.cat_journal.proofs.Opens.{bad_file}
use Rattle.cat_journal.proofs.opening.take_snapshot.Goals as goal

pub returns-in-Some-clause-found : goal.returns-in-Some-clause-found
returns-in-Some-clause-found g c = λ told found.
    let bytes = (g.D.Store.view c.args.store.now).reads c.args.file in
    has_front bytes c.args.head.now c.in-Some.snapshot found c.requires.head (rw c.in-Some.is at (c.in_ok-snapshot.ensures.found told))
    (rw c.in-Some.is at c.in_ok-snapshot.ensures.size)

pub returns-in-None-clause-found : goal.returns-in-None-clause-found
returns-in-None-clause-found g c = λ told found.
    let bytes = (g.D.Store.view c.args.store.now).reads c.args.file in
    let P : OpenFault → Type 0 = IsBadFile c.args.file bytes in
    subst P (sym c.bad_front.ensures)
    (bad_file c.args.file bytes c.args.head.now found (rw c.in-None.is at (c.in_ok-snapshot.ensures.found told)))
