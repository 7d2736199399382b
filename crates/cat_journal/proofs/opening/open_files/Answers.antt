use Rattle.std.proofs.Common.{sym, subst}
use Rattle.std.specs.Prelude.{Err}
use Rattle.std.proofs.lemmas.Result.{err_from_is_err_and}
use Rattle.cat_journal.specs.Heads.{head_of}
use Rattle.cat_journal.specs.Opening.{Opens}
use Rattle.cat_journal.specs.declared.opening.OpenFault.{OpenFault}
use Rattle.cat_journal.proofs.HeadsRead.{begins_shut, begins_bad}
use Rattle.cat_journal.proofs.Opens.{bad_first, bad_behind_shut, bad_behind_open, first_alone, second_alone, opens_bad, opens_alone}
use Rattle.cat_journal.proofs.opening.open_files.Goals as goal

pub returns-in_err-check_front-in-Open-Bad-clause-opens : goal.returns-in_err-check_front-in-Open-Bad-clause-opens
returns-in_err-check_front-in-Open-Bad-clause-opens g c = λ told first second.
    let files = (g.D.Store.view c.args.store.now).reads in
    let fault = c.in_err-check_front-in-Open-Bad.field-0.0 in
    let p = err_from_is_err_and c.from_residual.result c.from_residual.ensures.1 in
    rw (p.1, p.2) (opens_bad files 0 fault (bad_first files) (c.in_err-check_front-in-Open-Bad.ensures.found told (rw c.in-Open-Bad.is-0 at first)))

pub returns-in-Bad-default-clause-opens : goal.returns-in-Bad-default-clause-opens
returns-in-Bad-default-clause-opens g c = λ told first second.
    let files = (g.D.Store.view c.args.store.now).reads in
    let P : OpenFault → Type 0 = λ fault. Opens files (Err fault) in
    subst P (sym c.bad_front.ensures) (bad_first files (begins_bad (files 0) (rw c.in-Bad-default.is-0 at first)))

pub returns-in-Shut-Bad-clause-opens : goal.returns-in-Shut-Bad-clause-opens
returns-in-Shut-Bad-clause-opens g c = λ told first second.
    let files = (g.D.Store.view c.args.store.now).reads in
    let P : OpenFault → Type 0 = λ fault. Opens files (Err fault) in
    subst P (sym c.bad_front-in-Shut-Bad.ensures) (bad_behind_shut files (begins_shut (files 0) (rw c.in-Shut-Bad.is-0 at first))
    (begins_bad (files 1) (rw c.in-Shut-Bad.is-1 at second)))

pub returns-in-Shut-Open-clause-opens : goal.returns-in-Shut-Open-clause-opens
returns-in-Shut-Open-clause-opens g c = λ told first second.
    let files = (g.D.Store.view c.args.store.now).reads in
    let shut = begins_shut (files 0) (rw c.in-Shut-Open.is-0 at first) in
    let head = head_of c.in-Shut-Open.head in
    opens_alone files 1 head c.open_alone.result (bad_behind_shut files shut) (λ snapshot has. second_alone files head snapshot shut has)
    (c.open_alone.ensures.opens told (rw c.in-Shut-Open.is-1 at second))

pub returns-in_ok-check_front-in-Open-Bad-clause-opens : goal.returns-in_ok-check_front-in-Open-Bad-clause-opens
returns-in_ok-check_front-in-Open-Bad-clause-opens g c = λ told first second.
    let files = (g.D.Store.view c.args.store.now).reads in
    let front = c.in_ok-check_front-in-Open-Bad.ensures.found told (rw c.in-Open-Bad.is-0 at first) in
    let P : OpenFault → Type 0 = λ fault. Opens files (Err fault) in
    subst P (sym c.bad_front-in-Open-Bad.ensures)
    (bad_behind_open files (head_of c.in-Open-Bad.head) front.0 front.1 (begins_bad (files 1) (rw c.in-Open-Bad.is-1 at second)))

pub returns-in-Open-Shut-clause-opens : goal.returns-in-Open-Shut-clause-opens
returns-in-Open-Shut-clause-opens g c = λ told first second.
    let files = (g.D.Store.view c.args.store.now).reads in
    let shut = begins_shut (files 1) (rw c.in-Open-Shut.is-1 at second) in
    let head = head_of c.in-Open-Shut.head in
    opens_alone files 0 head c.open_alone-in-Open-Shut.result (bad_first files) (λ snapshot has. first_alone files head snapshot has shut)
    (c.open_alone-in-Open-Shut.ensures.opens told (rw c.in-Open-Shut.is-0 at first))
