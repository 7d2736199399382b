use Rattle.dep_chain.proofs.Purges.{purgeable_by}
use Rattle.dep_chain.proofs.purging.purgeable.Goals as goal

pub returns-then-has_complete : goal.returns-then-has_complete
returns-then-has_complete c =
    let facts = rw c.records-records.ensures.value at c.stays_under.ensures in
    purgeable_by c.args.db.now.records c.args.sessions.now c.args.moment.0
    c.records-records.ensures.order c.args.ssid.0 c.stays_under.result
    (c.has_complete.ensures.0 c.if-has_complete.true) facts
