use Rattle.std.proofs.Common.{◌≡◌, ◌+◌, ◌<◌, ◌∙◌, ◌++◌, List, ℕ, length, length-append, sym, ap, subst, arith}
use Rattle.std.specs.Prelude.{IsTrue, Ok, Err}
use Rattle.std.specs.List.{AllByRecursion}
use Rattle.std.proofs.lemmas.Cmp.{nat_cmp_total}
use Rattle.std.proofs.lemmas.Result.{err_from_is_err_and}
use Rattle.room_base.proofs.OrderedLaws.{each_found}
use Rattle.room_base.specs.declared.numbers.Ssid.{Ssid}
use Rattle.room_disk.specs.Disk.{Image}
use Rattle.room_disk.proofs.Runs.{quiet_then}
use Rattle.media_db.specs.Rows.{ssid_of}
use Rattle.media_db.specs.declared.records.Record.{Record}
use Rattle.recover_files.specs.Stages.{CopiesRun}
use Rattle.recover_files.specs.StreamAt.{HasSections, shelf_of, AreBytes}
use Rattle.recover_files.proofs.Copies.{range_fails, range_more, same_reads}
use Rattle.recover_files.proofs.range.read_range.Goals as goal

pub read_run-requires-clause-sections : goal.read_run-requires-clause-sections
read_run-requires-clause-sections g c =
    each_found nat_cmp_total ssid_of (λ (row : Record). AllByRecursion HasSections row.copies) c.args.ssid.0 c.in-Some.row.now
    c.args.db.now.records c.requires.orderly.copies (sym c.in-Some.ensures.found)

pub returns-in_err-done-clause-given : goal.returns-in_err-done-clause-given
returns-in_err-done-clause-given g c = λ told.
    let start = g.D.Store.view c.args.store.now in
    let here = g.D.Store.view c.loop-done.store in
    let told_here : IsTrue here.tells = rw c.loop-done.invariant.tells told in
    let same = same_reads start here (c.loop-done.invariant.quiet told) in
    let shelf = shelf_of c.args.db.now c.args.home.now start.reads in
    let rows = c.args.db.now.records in
    let fault = c.in_err-done.field-0.0 in
    let row = c.in-Some.row.now in
    let front = c.split_at_mut-rest.result.0.now in
    let rest = c.split_at_mut-rest.result.1.now in
    let new = c.read_run.new.into in
    let split = c.split_at_mut-rest.ensures in
    let number : row.ssid.0 ≡ c.args.ssid.0 = ap (λ (n : Ssid). n.0) c.in-Some.ensures.ssid in
    let Run : Image → ℕ → Type 0 = λ reads ssid. CopiesRun (shelf_of c.args.db.now c.args.home.now reads) ssid row.copies
    (c.args.from + c.loop-done.done) new (Err fault) in
    let run = subst (λ (n : ℕ). Run start.reads n) number (subst (λ (r : Image). Run r row.ssid.0) same (c.in_err-done.ensures.run told_here)) in
    let long : length new ≡ length rest = c.read_run.auto.into in
    let Given : List ℕ → Type 0 = λ bytes. AreBytes shelf rows c.args.ssid.0 c.args.from c.loop-done.done bytes in
    let given = subst Given split.value (c.loop-done.invariant.given told) in
    let within : c.loop-done.done < length (front ++ new) =
    omega (arith, c.loop-done-test.true, length-append front new, split.front_len, split.back_len, long) in
    let p = err_from_is_err_and c.from_residual.result c.from_residual.ensures.1 in
    rw (p.1, p.2) (range_fails shelf rows row c.args.ssid.0 c.args.from c.loop-done.done front rest new fault
    (sym c.in-Some.ensures.found) split.front_len given long within run)

pub loop-done-preserved : goal.loop-done-preserved
loop-done-preserved g c =
    let start = g.D.Store.view c.args.store.now in
    let here = g.D.Store.view c.loop-done.store in
    let now = g.D.Store.view c.read_run.new.store in
    let shelf = shelf_of c.args.db.now c.args.home.now start.reads in
    let rows = c.args.db.now.records in
    let row = c.in-Some.row.now in
    let front = c.split_at_mut-rest.result.0.now in
    let rest = c.split_at_mut-rest.result.1.now in
    let new = c.read_run.new.into in
    let count = c.in_ok-done.field-0 in
    let split = c.split_at_mut-rest.ensures in
    let long : length new ≡ length rest = c.read_run.auto.into in
    record {
      later = λ other. omega (arith, c.loop-done.invariant.later other, c.in_ok-done.ensures.cause.later other);
      tells = c.in_ok-done.ensures.tells ∙ c.loop-done.invariant.tells;
      quiet = λ told. (let told_here : IsTrue here.tells = rw c.loop-done.invariant.tells told in
          quiet_then start here now (c.loop-done.invariant.quiet told) (c.in_ok-done.ensures.quiet told_here));
      within = omega (arith, c.in_ok-done.ensures.bounds.1, length-append front new, split.front_len, long);
      given = λ told.
          (let told_here : IsTrue here.tells = rw c.loop-done.invariant.tells told in
          let same = same_reads start here (c.loop-done.invariant.quiet told) in
          let number : row.ssid.0 ≡ c.args.ssid.0 = ap (λ (n : Ssid). n.0) c.in-Some.ensures.ssid in
          let Run : Image → ℕ → Type 0 = λ reads ssid. CopiesRun (shelf_of c.args.db.now c.args.home.now reads) ssid row.copies
          (c.args.from + c.loop-done.done) new (Ok count) in
          let run = subst (λ (n : ℕ). Run start.reads n) number (subst (λ (r : Image). Run r row.ssid.0) same (c.in_ok-done.ensures.run told_here)) in
          let Given : List ℕ → Type 0 = λ bytes. AreBytes shelf rows c.args.ssid.0 c.args.from c.loop-done.done bytes in
          range_more shelf rows row c.args.ssid.0 c.args.from c.loop-done.done count front rest new (sym c.in-Some.ensures.found)
          split.front_len (subst Given split.value (c.loop-done.invariant.given told)) run);
    }
