use Rattle.std.proofs.Common.{◌≤◌, ◌∙◌, ◌++◌, length, take, arith, length-append}
use Rattle.std.proofs.lemmas.List.{length-take-le}
use Rattle.desk_request.proofs.Filling.{took_of_moves, took_then, filled_more}
use Rattle.desk_request.proofs.reading.fill.Goals as goal

pub loop-at-preserved : goal.loop-at-preserved
loop-at-preserved g c =
    let old = g.S.Source.view c.args.source.now in
    let mid = g.S.Source.view c.loop-at.source in
    let new = g.S.Source.view c.take.new.self in
    let count = c.in-Ok.count in
    let into = c.take.new.into in
    let so_far = c.loop-at.invariant in
    let split = c.split_at_mut-space in
    let within : count ≤ length into = omega (arith, c.in-Ok.ensures.within) in
    let long = length-take-le count into within in record {
      more = so_far.more ++ take count into;
      place = omega (arith, so_far.place, length-append so_far.more (take count into), long);
      within = omega (arith, within, split.ensures.front_len, length-append split.result.0.now into);
      filled = filled_more _ c.loop-at.into split.result.0.now into so_far.more c.loop-at.at count split.ensures.front_len split.ensures.front so_far.filled;
      took = λ told. took_then old mid new so_far.more (take count into) (so_far.took told)
          (took_of_moves mid new into count (c.in-Ok.ensures.moved (rw so_far.tells told)));
      later = omega (arith, so_far.later, c.in-Ok.ensures.cause.later);
      tells = c.in-Ok.ensures.tells ∙ so_far.tells;
      alone = g.met.S.Source.takes_then _ _ _ so_far.alone c.in-Ok.ensures.alone;
    }
