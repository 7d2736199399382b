use Rattle.std.proofs.Common.{◌∙◌, arith}
use Rattle.std.proofs.lemmas.List.{length-append}
use Rattle.room_base.specs.Outside.{Moves}
use Rattle.room_run.proofs.TakenInput.{fills_more}
use Rattle.room_run.proofs.input.take_up_to.Goals as goal

pub loop-taken-preserved : goal.loop-taken-preserved
loop-taken-preserved g c =
    let before = g.S.Source.view c.args.input.now in
    let mid = g.S.Source.view c.loop-taken.input in
    let after = g.S.Source.view c.take.new.self in (
      omega (arith, length-append c.split_at_mut-space.result.0.now c.take.new.into, c.in_ok-count.ensures.within),
      omega (arith, c.in_ok-count.ensures.cause.later, c.loop-taken.invariant.1),
      c.in_ok-count.ensures.tells ∙ c.loop-taken.invariant.2,
      λ told.
          (let moved : Moves mid after c.take.new.into c.in_ok-count.count = c.in_ok-count.ensures.moved (rw c.loop-taken.invariant.2 told) in
          rw c.split_at_mut-space.ensures.front
          (fills_more before.left mid.left after.left c.loop-taken.buffer c.take.new.into c.loop-taken.taken c.in_ok-count.count
          (c.loop-taken.invariant.3 told) c.loop-taken.invariant.0 moved.enough moved.left moved.given)),
    )
