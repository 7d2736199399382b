use Rattle.std.proofs.Common.{List, ℕ, [], get_or, Err, Ok, Bor}
use Rattle.std.proofs.lemmas.Result.{err_from_is_err_and}
use Rattle.room_base.specs.Outside.{WritesText}
use Rattle.room_base.proofs.Writing.{next_item, item_failed}
use Rattle.room_base.proofs.sink.write_parts.Goals as goal

abbrev text_of : Bor (List ℕ) → List ℕ
text_of part = part.now

abbrev nothing : Bor (List ℕ)
nothing = record { ref_ptr = (0, 0); now = [] }

pub returns-in_err-write_all-clause-written : goal.returns-in_err-write_all-clause-written
returns-in_err-write_all-clause-written g c =
    let p = err_from_is_err_and c.from_residual.result c.from_residual.ensures.1 in
    let parts = c.args.parts.now in
    let i = c.loop-part.part-index in
    let fault = c.in_err-write_all.field-0.0 in
    let mid = g.W.Sink.view c.loop-part.sink in
    let new = g.W.Sink.view c.write_all.new.sink in
    let failed : WritesText {T = Unit {0}} (text_of (get_or parts i nothing)) mid new (Err fault) = record {
      cause = c.in_err-write_all.ensures.cause;
      tells = c.in_err-write_all.ensures.tells;
      written = c.in_err-write_all.ensures.written;
    } in
    rw p.1 (item_failed text_of parts i nothing _ mid new fault p.0 c.loop-part-test.true c.loop-part.invariant.0 failed)

pub loop-part-preserved : goal.loop-part-preserved
loop-part-preserved g c =
    let parts = c.args.parts.now in
    let i = c.loop-part.part-index in
    let mid = g.W.Sink.view c.loop-part.sink in
    let new = g.W.Sink.view c.write_all.new.sink in
    let wrote : WritesText {T = Unit {0}} (text_of (get_or parts i nothing)) mid new (Ok tt) = record {
      cause = c.in_ok-write_all.ensures.cause;
      tells = c.in_ok-write_all.ensures.tells;
      written = c.in_ok-write_all.ensures.written;
    } in (
      next_item text_of parts i nothing _ mid new c.loop-part-test.true c.loop-part.invariant.0 wrote,
      g.met.W.Sink.puts_then _ _ _ c.loop-part.invariant.1 c.in_ok-write_all.ensures.alone,
    )

pub returns-in_err-write_all-clause-alone : goal.returns-in_err-write_all-clause-alone
returns-in_err-write_all-clause-alone g c =
    g.met.W.Sink.puts_then _ _ _ c.loop-part.invariant.1 c.in_err-write_all.ensures.alone
