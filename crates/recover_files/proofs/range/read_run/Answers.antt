use Rattle.std.proofs.Common.{◌≡◌, ◌+◌, ◌∙◌, ◌∷◌, List, [], drop, subst, arith}
use Rattle.std.specs.Prelude.{IsTrue}
use Rattle.std.proofs.lemmas.Grind.{common_steps}
use Rattle.std.proofs.lemmas.Result.{err_from_is_err_and}
use Rattle.room_disk.specs.Disk.{Image}
use Rattle.room_disk.proofs.Runs.{quiet_then}
use Rattle.media_db.specs.declared.copies.SetCopy.{SetCopy}
use Rattle.recover_files.specs.Stages.{BlamesOrFails, IsRun}
use Rattle.recover_files.specs.StreamAt.{shelf_of, CopyGives, CopyLacks, CopiesLack}
use Rattle.recover_files.proofs.Copies.{HasPassed, pass_more, pass_all, blames_run, failed_run, same_reads}
use Rattle.recover_files.proofs.range.read_run.Goals as goal

pub returns-in_err-run-clause-run : goal.returns-in_err-run-clause-run
returns-in_err-run-clause-run g c = λ told.
    let p = err_from_is_err_and c.from_residual.result c.from_residual.ensures.1 in
    rw (p.1, p.2) (failed_run (shelf_of c.args.db.now c.args.home.now (g.D.Store.view c.args.store.now).reads) c.args.row.now.ssid.0
    c.args.row.now.copies c.args.place c.read_copy.new.into c.in_err-run.field-0.0 c.in_err-run.ensures.failed)

pub loop-copy-preserved : goal.loop-copy-preserved
loop-copy-preserved g c =
    let start = g.D.Store.view c.args.store.now in
    let here = g.D.Store.view c.loop-copy.store in
    let new = g.D.Store.view c.read_copy.new.store in
    let copies = c.as_slice-copies.result.now in
    let copy = c.copy-item.result in
    let ssid = c.args.row.now.ssid.0 in
    let run = c.in_ok-run.run' in
    let into = c.read_copy.new.into in
    record {
      later = λ other. omega (arith, c.loop-copy.invariant.later other, c.in_ok-run.ensures.cause.later other);
      tells = c.in_ok-run.ensures.tells ∙ c.loop-copy.invariant.tells;
      quiet = λ told. (let told_here : IsTrue here.tells = rw c.loop-copy.invariant.tells told in
          quiet_then start here new (c.loop-copy.invariant.quiet told) (c.in_ok-run.ensures.quiet told_here));
      most = omega (arith, c.loop-copy.invariant.most, c.in_ok-run.ensures.bounds.clear, c.read_copy.auto.into);
      some = c.in_ok-run.ensures.bounds.some;
      passed = λ told.
          (let told_here : IsTrue here.tells = rw c.loop-copy.invariant.tells told in
          let same = same_reads start here (c.loop-copy.invariant.quiet told) in
          let Is : Image → Type 0 = λ reads. IsRun (CopyGives (shelf_of c.args.db.now c.args.home.now reads) ssid copy)
          (CopyLacks (shelf_of c.args.db.now c.args.home.now reads) ssid copy) c.args.place into run in
          let is = subst Is same (c.in_ok-run.ensures.run told_here) in
          let parts : drop c.loop-copy.copy-index copies ≡ copy ∷ drop (c.loop-copy.copy-index + 1) copies = grind (arith, common_steps, c.copy-item.is) in
          let Passed : List SetCopy → Type 0 = λ rest. HasPassed (shelf_of c.args.db.now c.args.home.now start.reads) ssid c.args.place c.loop-copy.clear copies rest in
          pass_more (shelf_of c.args.db.now c.args.home.now start.reads) ssid c.args.place c.loop-copy.clear copies copy
          (drop (c.loop-copy.copy-index + 1) copies) into run (subst Passed parts (c.loop-copy.invariant.passed told))
          c.in_ok-run.ensures.bounds is (omega (arith, c.if-run-gt0.false)));
    }

pub returns-clause-run : goal.returns-clause-run
returns-clause-run g c = λ told.
    let start = g.D.Store.view c.args.store.now in
    let here = g.D.Store.view c.loop-copy.store in
    let copies = c.as_slice-copies.result.now in
    let ssid = c.args.row.now.ssid.0 in
    let shelf = shelf_of c.args.db.now c.args.home.now start.reads in
    let told_here : IsTrue here.tells = rw c.loop-copy.invariant.tells told in
    let same = same_reads start here (c.loop-copy.invariant.quiet told) in
    let Blames : Image → Type 0 = λ reads. BlamesOrFails (shelf_of c.args.db.now c.args.home.now reads) c.args.row.now.copies c.args.place c.blame.result in
    let blames = subst Blames same (c.blame.ensures.blames told_here) in
    let ended : drop c.loop-copy.copy-index copies ≡ [] = grind (arith, common_steps, c.loop-copy-test.false) in
    let lacks = pass_all shelf ssid c.args.place c.loop-copy.clear copies (drop c.loop-copy.copy-index copies) (c.loop-copy.invariant.passed told)
    ended c.loop-copy.invariant.some in
    let Lacks : List SetCopy → Type 0 = λ list. CopiesLack shelf ssid list c.args.place in
    blames_run shelf ssid c.args.row.now.copies c.args.place c.loop-copy.into c.blame.result (subst Lacks c.as_slice-copies.ensures lacks) blames
