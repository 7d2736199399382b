use Rattle.std.proofs.Common.{◌≡◌, drop}
use Rattle.std.proofs.lemmas.Result.{err_from_is_err_and}
use Rattle.room_base.proofs.Writing.{front_added}
use Rattle.room_base.specs.Outside.{AddsFront}
use Rattle.room_base.proofs.sink.write_all.Goals as goal

pub returns-in_err-done-clause-written : goal.returns-in_err-done-clause-written
returns-in_err-done-clause-written g c =
    let p = err_from_is_err_and c.from_residual.result c.from_residual.ensures.1 in
    rw p.1 (λ told.
    let rest : c.split_at.result.1.now ≡ drop c.loop-done.done c.args.bytes.now = c.split_at.ensures.back in
    let gained : AddsFront (g.W.Sink.view c.loop-done.sink).written (g.W.Sink.view c.put.new.self).written c.split_at.result.1.now
    = c.in_err-done.ensures.added (rw c.loop-done.invariant.2 told) in
    front_added _ _ _ _ _ (c.loop-done.invariant.3 told) (rw (← rest) gained))

pub returns-in_err-done-clause-alone : goal.returns-in_err-done-clause-alone
returns-in_err-done-clause-alone g c =
    g.met.W.Sink.puts_then _ _ _ c.loop-done.invariant.4 c.in_err-done.ensures.alone
