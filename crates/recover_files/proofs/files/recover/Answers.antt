use Rattle.std.proofs.Common.{◌≡◌, ◌+◌, ◌∙◌, ℕ, length, take, subst, arith, rules}
use Rattle.std.specs.Prelude.{IsTrue, Err}
use Rattle.std.proofs.lemmas.Result.{err_from_is_err_and}
use Rattle.room_disk.specs.Disk.{Image}
use Rattle.room_disk.proofs.Runs.{quiet_then}
use Rattle.recover_files.specs.StreamAt.{shelf_of}
use Rattle.recover_files.specs.FileBytes.{CanBeHad, AddsBytes, RecoversAs, WritesBytes}
use Rattle.recover_files.proofs.Copies.{same_reads}
use Rattle.recover_files.proofs.Recovering.{had_more, recovers_later, adds_more, adds_front}
use Rattle.recover_files.proofs.files.recover.Goals as goal

pub returns-in_err-write_range-clause-recovers : goal.returns-in_err-write_range-clause-recovers
returns-in_err-write_range-clause-recovers g c = λ told.
    let start = g.D.Store.view c.args.store.now in
    let here = g.D.Store.view c.loop-done.store in
    let seen = c.args.seen.now in
    let rows = c.args.db.now.records in
    let count = c.piece_size-count.result in
    let fault = c.in_err-write_range.field-0.0 in
    let told_here : IsTrue here.tells = rw c.loop-done.invariant.tells told in
    let same = same_reads start here (c.loop-done.invariant.quiet told) in
    let long : length (take count c.loop-done.buffer) ≡ count = search rules in
    let As : Image → ℕ → Type 0 = λ reads n. RecoversAs {T = Unit {0}} (shelf_of c.args.db.now c.args.home.now reads) rows seen.owner.0
    (seen.place + c.loop-done.done) n (Err fault) in
    let is = subst (λ (n : ℕ). As start.reads n) long
    (subst (λ (r : Image). As r (length (take count c.loop-done.buffer))) same (c.in_err-write_range.ensures.recovers told_here)) in
    let p = err_from_is_err_and c.from_residual.result c.from_residual.ensures.1 in
    rw (p.1, p.2) (recovers_later (shelf_of c.args.db.now c.args.home.now start.reads) rows seen.owner.0 seen.place c.loop-done.done count seen.size
    fault (c.loop-done.invariant.had told) (omega (arith, c.loop-done-test.true, c.piece_size-count.ensures.left)) is)

pub returns-in_err-write_range-clause-written : goal.returns-in_err-write_range-clause-written
returns-in_err-write_range-clause-written g c = λ told sink_told.
    let start = g.D.Store.view c.args.store.now in
    let here = g.D.Store.view c.loop-done.store in
    let old = g.W.Sink.view c.args.out.now in
    let mid = g.W.Sink.view c.loop-done.out in
    let new = g.W.Sink.view c.write_range.new.out in
    let seen = c.args.seen.now in
    let rows = c.args.db.now.records in
    let count = c.piece_size-count.result in
    let fault = c.in_err-write_range.field-0.0 in
    let told_here : IsTrue here.tells = rw c.loop-done.invariant.tells told in
    let told_mid : IsTrue mid.tells = rw c.loop-done.invariant.sink_tells sink_told in
    let same = same_reads start here (c.loop-done.invariant.quiet told) in
    let long : length (take count c.loop-done.buffer) ≡ count = search rules in
    let Adds : Image → ℕ → Type 0 = λ reads n. WritesBytes {T = Unit {0}} (shelf_of c.args.db.now c.args.home.now reads) rows seen.owner.0
    (seen.place + c.loop-done.done) n mid.written new.written (Err fault) in
    let is = subst (λ (n : ℕ). Adds start.reads n) long
    (subst (λ (r : Image). Adds r (length (take count c.loop-done.buffer))) same (c.in_err-write_range.ensures.written told_here told_mid)) in
    let p = err_from_is_err_and c.from_residual.result c.from_residual.ensures.1 in
    rw p.1 (adds_front (shelf_of c.args.db.now c.args.home.now start.reads) rows seen.owner.0 seen.place c.loop-done.done count seen.size
    old.written mid.written new.written fault (c.loop-done.invariant.added told sink_told)
    (omega (arith, c.loop-done-test.true, c.piece_size-count.ensures.left)) is)

pub loop-done-preserved : goal.loop-done-preserved
loop-done-preserved g c =
    let start = g.D.Store.view c.args.store.now in
    let here = g.D.Store.view c.loop-done.store in
    let now = g.D.Store.view c.write_range.new.store in
    let old = g.W.Sink.view c.args.out.now in
    let mid = g.W.Sink.view c.loop-done.out in
    let new = g.W.Sink.view c.write_range.new.out in
    let seen = c.args.seen.now in
    let rows = c.args.db.now.records in
    let count = c.piece_size-count.result in
    let long : length (take count c.loop-done.buffer) ≡ count = search rules in
    let wrote = c.in_ok-write_range.ensures in
    record {
      later = λ other. omega (arith, c.loop-done.invariant.later other, wrote.cause.later other);
      tells = wrote.tells ∙ c.loop-done.invariant.tells;
      quiet = λ told. (let told_here : IsTrue here.tells = rw c.loop-done.invariant.tells told in
          quiet_then start here now (c.loop-done.invariant.quiet told) (wrote.quiet told_here));
      sink_later = omega (arith, c.loop-done.invariant.sink_later, wrote.cause.sink_later);
      sink_tells = wrote.sink_tells ∙ c.loop-done.invariant.sink_tells;
      alone = g.met.W.Sink.puts_then _ _ _ c.loop-done.invariant.alone wrote.alone;
      within = omega (arith, c.loop-done-test.true, c.piece_size-count.ensures.left);
      had = λ told.
          (let told_here : IsTrue here.tells = rw c.loop-done.invariant.tells told in
          let same = same_reads start here (c.loop-done.invariant.quiet told) in
          let Had : Image → ℕ → Type 0 = λ reads n. CanBeHad (shelf_of c.args.db.now c.args.home.now reads) rows seen.owner.0
          (seen.place + c.loop-done.done) n in
          let is = subst (λ (n : ℕ). Had start.reads n) long
          (subst (λ (r : Image). Had r (length (take count c.loop-done.buffer))) same (wrote.recovers told_here)) in
          had_more (shelf_of c.args.db.now c.args.home.now start.reads) rows seen.owner.0 seen.place c.loop-done.done count
          (c.loop-done.invariant.had told) is);
      added = λ told sink_told.
          (let told_here : IsTrue here.tells = rw c.loop-done.invariant.tells told in
          let told_mid : IsTrue mid.tells = rw c.loop-done.invariant.sink_tells sink_told in
          let same = same_reads start here (c.loop-done.invariant.quiet told) in
          let Adds : Image → ℕ → Type 0 = λ reads n. AddsBytes (shelf_of c.args.db.now c.args.home.now reads) rows seen.owner.0
          (seen.place + c.loop-done.done) mid.written new.written n in
          let is = subst (λ (n : ℕ). Adds start.reads n) long
          (subst (λ (r : Image). Adds r (length (take count c.loop-done.buffer))) same (wrote.written told_here told_mid)) in
          adds_more (shelf_of c.args.db.now c.args.home.now start.reads) rows seen.owner.0 seen.place c.loop-done.done count
          old.written mid.written new.written (c.loop-done.invariant.added told sink_told) is);
    }
