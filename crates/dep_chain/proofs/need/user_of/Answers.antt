use Rattle.dep_chain.proofs.Needing.{least_user, no_user}
use Rattle.dep_chain.proofs.need.user_of.Goals as goal

pub returns-then-depends : goal.returns-then-depends
returns-then-depends c =
    let within = rw c.records-row-items.ensures.value at c.loop-row-test.true in
    let read = rw c.records-row-items.ensures.value at c.row-item.is in
    least_user c.args.db.now.records c.args.sessions.now c.args.moment.0
    c.records-row-items.ensures.order c.requires.sessions c.args.ssid.0 c.loop-row.row-index
    c.row-item.result c.loop-row.invariant within read (c.needs.ensures.0 c.if-needs.true)
    (c.depends.ensures.0 c.if-depends.true)

pub returns : goal.returns
returns c =
    let end = rw c.records-row-items.ensures.value at c.loop-row-test.false in
    no_user c.args.db.now.records c.args.sessions.now c.args.moment.0
    c.records-row-items.ensures.order c.requires.sessions c.args.ssid.0 c.loop-row.row-index
    c.loop-row.invariant end
