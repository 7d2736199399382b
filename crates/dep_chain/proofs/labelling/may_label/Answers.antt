use Rattle.std.proofs.Common.{sym}
use Rattle.dep_chain.proofs.Labels.{user_forbids, users_settled, least_forbids, all_allow}
use Rattle.dep_chain.proofs.labelling.may_label.Goals as goal

pub loop-row-preserved : goal.loop-row-preserved
loop-row-preserved c =
    let rows = c.args.db.now.records in
    let within = rw c.records-row-items.ensures.value at c.loop-row-test.true in
    let read = rw c.records-row-items.ensures.value at c.row-item.is in
    let order = c.records-row-items.ensures.order in
    let user = c.row-item.result in
    let least = c.loop-row.least in
    let result = c.least_with_user-least.result in
    let step = c.least_with_user-least.ensures in
    record {
      is = user_forbids rows c.args.sessions.now c.args.volid.0 c.args.moment.0 order
          c.requires.sessions user least result (c.loop-row.row-index, within, sym read)
          c.loop-row.invariant.is step.is;
      settled = users_settled rows c.args.sessions.now c.args.volid.0 c.args.moment.0 order
          c.requires.sessions c.loop-row.row-index user least result within read step.grown
          step.settled c.loop-row.invariant.settled;
    }

pub returns-in-Some : goal.returns-in-Some
returns-in-Some c =
    let end = rw c.records-row-items.ensures.value at c.loop-row-test.false in
    let settled = rw c.in-Some.is at c.loop-row.invariant.settled in
    let forbids = rw c.in-Some.is at c.loop-row.invariant.is in
    least_forbids c.args.db.now.records c.args.sessions.now c.args.volid.0 c.args.moment.0
    c.records-row-items.ensures.order c.requires.sessions c.loop-row.row-index c.in-Some.ssid
    settled
    end forbids

pub returns-in-None : goal.returns-in-None
returns-in-None c =
    let end = rw c.records-row-items.ensures.value at c.loop-row-test.false in
    let settled = rw c.in-None.is at c.loop-row.invariant.settled in
    all_allow c.args.db.now.records c.args.sessions.now c.args.volid.0 c.args.moment.0
    c.records-row-items.ensures.order c.requires.sessions c.loop-row.row-index tt settled end
