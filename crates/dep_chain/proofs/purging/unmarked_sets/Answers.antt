use Rattle.dep_chain.proofs.Unmarked.{unmarked_more, unmarked_same}
use Rattle.dep_chain.proofs.purging.unmarked_sets.Goals as goal
use Rattle.dep_chain.proofs.purging.unmarked_sets.Goals.{then-is_unmarked+in_ok-push}
use Rattle.dep_chain.proofs.purging.unmarked_sets.Goals.{else-is_unmarked}

pub loop-place-preserved : goal.loop-place-preserved
loop-place-preserved c =
    let at = c.loop-place.place in
    let row = c.index-records-place.result in
    elim c.if-is_unmarked.branch [
      | then-is_unmarked+in_ok-push w ↦
          let is = c.is_unmarked.ensures.0 w.if-is_unmarked.true in
          rw (w.ssids-is, w.in_ok-push.ensures.items)
          (unmarked_more c.args.records.now c.requires.order c.args.marks.now at row
          c.loop-place.ssids.items c.loop-place-test.true c.index-records-place.is is.0 is.1
          c.loop-place.invariant)
      | else-is_unmarked w ↦
          let isnt = w.if-is_unmarked.false in
          rw w.ssids-is (unmarked_same c.args.records.now c.requires.order c.args.marks.now at row
          c.loop-place.ssids.items c.loop-place-test.true c.index-records-place.is
          (λ complete free. let is = c.is_unmarked.ensures.1 (complete, free) in absurd cc)
          c.loop-place.invariant)
    ]
