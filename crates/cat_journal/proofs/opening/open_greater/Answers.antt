use Rattle.std.proofs.Common.{◌≡◌, ◌∙◌, take}
use Rattle.std.specs.Prelude.{IsTrue, Result, Ok, Err}
use Rattle.std.proofs.lemmas.Result.{err_from_is_err_and}
use Rattle.cat_journal.specs.Heads.{head_of}
use Rattle.cat_journal.specs.declared.opening.OpenFault.{OpenFault}
use Rattle.cat_journal.proofs.Opens.{ends_with_file, bad_first, bad_behind_open, second_greater, first_greater, opens_current, opens_bad, opens_alone, opens_alone_same, checks_same, opens_file_same}
use Rattle.cat_journal.proofs.opening.open_greater.Goals as goal

pub returns-in_err-check_front-clause-opens : goal.returns-in_err-check_front-clause-opens
returns-in_err-check_front-clause-opens g c = λ told first second.
    let files = (g.D.Store.view c.args.store.now).reads in
    let fault = c.in_err-check_front.field-0.0 in
    let p = err_from_is_err_and c.from_residual.result c.from_residual.ensures.1 in
    rw (p.1, p.2) (opens_bad files 0 fault (bad_first files) (c.in_err-check_front.ensures.found told first))

pub returns-then-first-second-clause-opens : goal.returns-then-first-second-clause-opens
returns-then-first-second-clause-opens g c = λ told first second.
    let start = g.D.Store.view c.args.store.now in
    let mid = g.D.Store.view c.check_front.new.store in
    let files = start.reads in
    let told_mid : IsTrue mid.tells = rw c.in_ok-check_front.ensures.tells told in
    let same : mid.reads 1 ≡ files 1 = (c.in_ok-check_front.ensures.quiet told).reads 1 in
    let one = head_of c.args.first.now in
    let two = head_of c.args.second.now in
    let front = c.in_ok-check_front.ensures.found told first in
    let opens = opens_alone_same 1 (mid.reads 1) (files 1) c.args.second.now c.open_alone.result same (c.open_alone.ensures.opens told_mid) second in
    opens_alone files 1 two c.open_alone.result (bad_behind_open files one front.0 front.1)
    (λ snapshot has meaning means. second_greater files one two front.0 snapshot front.1 has c.if-first-second.true meaning means) opens

pub returns-in_err-snapshot-clause-opens : goal.returns-in_err-snapshot-clause-opens
returns-in_err-snapshot-clause-opens g c = λ told first second.
    let files = (g.D.Store.view c.args.store.now).reads in
    let fault = c.in_err-snapshot.field-0.0 in
    let p = err_from_is_err_and c.from_residual-in_err-snapshot.result c.from_residual-in_err-snapshot.ensures.1 in
    rw (p.1, p.2) (opens_bad files 0 fault (bad_first files) (c.in_err-snapshot.ensures.found told first))

pub returns-in_err-check_front-2-clause-opens : goal.returns-in_err-check_front-2-clause-opens
returns-in_err-check_front-2-clause-opens g c = λ told first second.
    let start = g.D.Store.view c.args.store.now in
    let mid = g.D.Store.view c.take_snapshot.new.store in
    let files = start.reads in
    let told_mid : IsTrue mid.tells = rw c.in_ok-snapshot.ensures.tells told in
    let same : mid.reads 1 ≡ files 1 = (c.in_ok-snapshot.ensures.quiet told).reads 1 in
    let fault = c.in_err-check_front-2.field-0.0 in
    let one = head_of c.args.first.now in
    let has = c.in_ok-snapshot.ensures.found told first in
    let answer : Result (Unit {0}) OpenFault = Err fault in
    let bad = checks_same {T = Unit {0}} 1 (mid.reads 1) (files 1) c.args.second.now answer same (c.in_err-check_front-2.ensures.found told_mid) second in
    let p = err_from_is_err_and c.from_residual-in_err-check_front-2.result c.from_residual-in_err-check_front-2.ensures.1 in
    rw (p.1, p.2) (opens_bad files 1 fault (bad_behind_open files one c.in_ok-snapshot.snapshot has) bad)

pub returns-clause-opens : goal.returns-clause-opens
returns-clause-opens g c = λ told first second.
    let start = g.D.Store.view c.args.store.now in
    let mid = g.D.Store.view c.take_snapshot.new.store in
    let late = g.D.Store.view c.check_front-2.new.store in
    let files = start.reads in
    let told_mid : IsTrue mid.tells = rw c.in_ok-snapshot.ensures.tells told in
    let told_late : IsTrue late.tells = rw c.in_ok-check_front-2.ensures.tells told_mid in
    let same_mid : mid.reads 1 ≡ files 1 = (c.in_ok-snapshot.ensures.quiet told).reads 1 in
    let same_late : late.reads 0 ≡ files 0 = (c.in_ok-check_front-2.ensures.quiet told_mid).reads 0 ∙ (c.in_ok-snapshot.ensures.quiet told).reads 0 in
    let one = head_of c.args.first.now in
    let two = head_of c.args.second.now in
    let snapshot = c.in_ok-snapshot.snapshot in
    let has = c.in_ok-snapshot.ensures.found told first in
    let answer : Result (Unit {0}) OpenFault = Ok tt in
    let front = checks_same {T = Unit {0}} 1 (mid.reads 1) (files 1) c.args.second.now answer same_mid (c.in_ok-check_front-2.ensures.found told_mid) second in
    let opens = opens_file_same 0 (late.reads 0) (files 0) c.args.first.now snapshot c.open_file.result same_late (c.open_file.ensures.opens told_late)
    has (ends_with_file (files 0) (take 64 (files 0)) c.args.first.now first) in
    opens_current files 0 one snapshot c.open_file.result
    (λ meaning means. first_greater files one two snapshot front.0 has front.1 c.if-first-second.false meaning means) opens
