use Rattle.dep_chain.proofs.Unmarked.{ok_weaker, unmarked_purgeable}
use Rattle.dep_chain.proofs.purging.purgeable_sets.Goals as goal

pub returns : goal.returns
returns c =
    let unmarked = rw (c.records-records.ensures.value, c.deref.ensures.value) at
    c.unmarked_sets.ensures in
    let marked = rw c.records-records.ensures.value at c.in_ok-marks.ensures.marks in
    ok_weaker c.unmarked_sets.result _ _
    (λ ssids. unmarked_purgeable c.args.db.now.records c.records-records.ensures.order
    c.in_ok-marks.marks.items c.args.sessions.now c.args.moment.0 marked ssids.items) unmarked
