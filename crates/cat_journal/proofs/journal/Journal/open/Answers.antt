use Rattle.std.proofs.Common.{◌≡◌, ◌∙◌, ℕ, length, take, subst}
use Rattle.std.specs.Prelude.{IsTrue}
use Rattle.std.proofs.lemmas.Result.{err_from_is_err_and}
use Rattle.room_disk.specs.Disk.{Image}
use Rattle.cat_journal.specs.Heads.{FindsHead}
use Rattle.cat_journal.specs.Opening.{Opens}
use Rattle.cat_journal.proofs.Opens.{finds_same}
use Rattle.cat_journal.proofs.journal.Journal.open.Goals as goal

pub returns-in_err-sync_file-clause-opens : goal.returns-in_err-sync_file-clause-opens
returns-in_err-sync_file-clause-opens g c = λ told.
    let p = err_from_is_err_and c.from_residual.result c.from_residual.ensures.1 in
    rw (p.1, p.2, c.in_err-sync_file.ensures.fault) tt

pub returns-in_err-sync_file-2-clause-opens : goal.returns-in_err-sync_file-2-clause-opens
returns-in_err-sync_file-2-clause-opens g c = λ told.
    let p = err_from_is_err_and c.from_residual-in_err-sync_file-2.result c.from_residual-in_err-sync_file-2.ensures.1 in
    rw (p.1, p.2, c.in_err-sync_file-2.ensures.fault) tt

pub returns-clause-opens : goal.returns-clause-opens
returns-clause-opens g c = λ told.
    let start = g.D.Store.view c.args.store.now in
    let one = g.D.Store.view c.sync_file.new.store in
    let two = g.D.Store.view c.sync_file-2.new.store in
    let three = g.D.Store.view c.read_front.new.store in
    let four = g.D.Store.view c.read_front-2.new.store in
    let told_one : IsTrue one.tells = rw c.in_ok-sync_file.ensures.tells told in
    let told_two : IsTrue two.tells = rw c.in_ok-sync_file-2.ensures.tells told_one in
    let told_three : IsTrue three.tells = rw c.in_ok-first.ensures.tells told_two in
    let told_four : IsTrue four.tells = rw c.in_ok-second.ensures.tells told_three in
    let same_two : (file : ℕ) → two.reads file ≡ start.reads file =
    λ file. (c.in_ok-sync_file-2.ensures.quiet told_one).reads file ∙ (c.in_ok-sync_file.ensures.quiet told).reads file in
    let same_three : (file : ℕ) → three.reads file ≡ start.reads file =
    λ file. (c.in_ok-first.ensures.quiet told_two).reads file ∙ same_two file in
    let same_four : (file : ℕ) → four.reads file ≡ start.reads file =
    λ file. (c.in_ok-second.ensures.quiet told_three).reads file ∙ same_three file in
    let same : four.reads ≡ start.reads = λ i file. same_four file i in
    let first = finds_same (two.reads 0) (start.reads 0) c.in_ok-first.first (same_two 0) (c.in_ok-first.ensures.found told_two) in
    let second = finds_same (three.reads 1) (start.reads 1) c.in_ok-second.second (same_three 1) (c.in_ok-second.ensures.found told_three) in
    let P : Image → Type 0 = λ files. FindsHead (take 64 (files 0)) (length (files 0)) c.in_ok-first.first
    → FindsHead (take 64 (files 1)) (length (files 1)) c.in_ok-second.second → Opens files c.open_files.result in
    subst P same (c.open_files.ensures.opens told_four) first second
