use Rattle.std.proofs.Common.{inl, inr}
use Rattle.std.proofs.lemmas.Result.{err_from_is_err_and}
use Rattle.cat_journal.specs.Journal.{JournalView, in_new_file, new_text, first_head}
use Rattle.cat_journal.proofs.Anew.{making_first, making_second, making_third, makes_failed, makes_all, rose_behind}
use Rattle.std.proofs.Common.{◌≡◌, ◌∙◌, ℕ, [], length, None, Some, sym, ap, subst, rules}
use Rattle.room_base.specs.declared.fault.Failed.{Failed}
use Rattle.cat_journal.specs.declared.current.CurrentFile.{CurrentFile}
use Rattle.cat_journal.specs.Contents.{IsFront, contents_of}
use Rattle.cat_journal.specs.Images.{HasContents}
use Rattle.cat_journal.proofs.Images.{fresh_stands}
use Rattle.cat_journal.proofs.journal.Journal.fresh.Goals as goal

abbrev in_file : ℕ → CurrentFile → JournalView
in_file number current = record { current = Some current; last = number; spare = 0 }

pub returns-in_err-write_synced-clause-makes : goal.returns-in_err-write_synced-clause-makes
returns-in_err-write_synced-clause-makes g c =
    let text = new_text (first_head c.args.number) c.args.snapshot.now in
    let before = g.D.Store.view c.args.store.now in
    let mid = g.D.Store.view c.write_synced.new.store in
    makes_failed text before mid (err_from_is_err_and c.from_residual.result c.from_residual.ensures.1).1
    (inl c.in_err-write_synced.ensures.cause.cause) (making_first text before mid c.in_err-write_synced.ensures)

pub returns-in_err-write_synced-2-clause-makes : goal.returns-in_err-write_synced-2-clause-makes
returns-in_err-write_synced-2-clause-makes g c =
    let text = new_text (first_head c.args.number) c.args.snapshot.now in
    let before = g.D.Store.view c.args.store.now in
    let mid = g.D.Store.view c.write_synced.new.store in
    let late = g.D.Store.view c.write_synced-2.new.store in
    makes_failed text before late (err_from_is_err_and c.from_residual-in_err-write_synced-2.result c.from_residual-in_err-write_synced-2.ensures.1).1
    (inr (rose_behind (before.faults 1) (mid.faults 1) (late.faults 1) (c.in_ok-write_synced.ensures.cause.later 1) c.in_err-write_synced-2.ensures.cause.cause))
    (making_second text before mid late c.in_ok-write_synced.ensures c.in_err-write_synced-2.ensures)

pub returns-in_err-current-clause-makes : goal.returns-in_err-current-clause-makes
returns-in_err-current-clause-makes g c =
    let text = new_text (first_head c.args.number) c.args.snapshot.now in
    let before = g.D.Store.view c.args.store.now in
    let mid = g.D.Store.view c.write_synced.new.store in
    let late = g.D.Store.view c.write_synced-2.new.store in
    let now = g.D.Store.view c.write_file.new.store in
    let both = making_second text before mid late c.in_ok-write_synced.ensures c.in_ok-write_synced-2.ensures in
    makes_failed text before now (err_from_is_err_and c.from_residual-in_err-current.result c.from_residual-in_err-current.ensures.1).1
    (inl (rose_behind (before.faults 0) (late.faults 0) (now.faults 0) (both.later 0) c.in_err-current.ensures.writes.cause.cause))
    (making_third text before mid late now c.in_ok-write_synced.ensures c.in_ok-write_synced-2.ensures c.in_err-current.ensures.writes)

pub returns-clause-makes : goal.returns-clause-makes
returns-clause-makes g c =
    makes_all (new_text (first_head c.args.number) c.args.snapshot.now) (g.D.Store.view c.args.store.now)
    (g.D.Store.view c.write_synced.new.store) (g.D.Store.view c.write_synced-2.new.store) (g.D.Store.view c.write_file.new.store)
    c.in_ok-write_synced.ensures c.in_ok-write_synced-2.ensures c.in_ok-current.ensures.writes

pub returns-clause-stands : goal.returns-clause-stands
returns-clause-stands g c = λ told.
    let number = c.args.number in
    let snapshot = c.args.snapshot.now in
    let allowed : IsFront (first_head number) snapshot = search rules in
    let now = g.D.Store.view c.write_file.new.store in
    let made = makes_all {E''' = Failed} {given = c.at.result} (new_text (first_head number) snapshot) (g.D.Store.view c.args.store.now)
    (g.D.Store.view c.write_synced.new.store) (g.D.Store.view c.write_synced-2.new.store) now
    c.in_ok-write_synced.ensures c.in_ok-write_synced-2.ensures c.in_ok-current.ensures.writes in
    let P : JournalView → Type 0 = λ v. HasContents v (contents_of (first_head number) snapshot []) now in
    let same : c.at.result ≡ in_new_file 0 1 (record { current = None; last = number; spare = 0 }) (length snapshot) =
    c.at.ensures ∙ ap (λ (current : CurrentFile). in_file number current) c.in_ok-current.ensures.current in
    subst P (sym same) (fresh_stands (g.D.Store.view c.args.store.now) now number snapshot told allowed made)
