use Rattle.std.proofs.Common.{◌≡◌, [], arith, take, drop, ap, ◌∙◌}
use Rattle.std.specs.Vec.Iter.{into_iter_items}
use Rattle.catalog_change.specs.Changes.{max_part}
use Rattle.save_finish.proofs.IndexParts.{left_one, moved_one}
use Rattle.save_finish.proofs.index.next_part.Goals as goal

pub loop-place-preserved : goal.loop-place-preserved
loop-place-preserved c =
    let all = into_iter_items c.args.entries.now in
    let so_far = c.loop-place.invariant in
    record {
      taken = moved_one c.loop-place._place all c.loop-place.part.items (into_iter_items c.loop-place.entries) c.move_next.new.part.items [] so_far.taken so_far.rest c.move_next.ensures.moved;
      rest = left_one c.loop-place._place all c.loop-place.part.items (into_iter_items c.loop-place.entries) [] (into_iter_items c.move_next.new.entries) so_far.taken so_far.rest c.move_next.ensures.rest;
      within = omega (arith, c.loop-place-test.true);
      room = omega (arith, so_far.room, c.move_next.ensures.room);
    }

pub returns-clause-part : goal.returns-clause-part
returns-clause-part c =
    let all = into_iter_items c.args.entries.now in
    let at_end : c.loop-place._place ≡ max_part = omega (arith, c.loop-place-test.false, c.loop-place.invariant.within) in
    c.of.ensures ∙ c.loop-place.invariant.taken ∙ ap (λ n. take n all) at_end

pub returns-clause-rest : goal.returns-clause-rest
returns-clause-rest c =
    let all = into_iter_items c.args.entries.now in
    let at_end : c.loop-place._place ≡ max_part = omega (arith, c.loop-place-test.false, c.loop-place.invariant.within) in
    c.loop-place.invariant.rest ∙ ap (λ n. drop n all) at_end
