use Rattle.std.proofs.Common.{length-append, arith}
use Rattle.dep_chain.proofs.Marking.{own_more}
use Rattle.dep_chain.proofs.marks.own_marks.Goals as goal

pub loop-row-preserved : goal.loop-row-preserved
loop-row-preserved c =
    let each = c.loop-row.invariant.each in
    let items = c.in_ok-push.ensures.items in
    let more = own_more c.args.records.now c.args.sessions.now c.args.moment.0 c.loop-row.row-index
    c.row-item.result c.loop-row.marks.items c.stays.result each c.loop-row-test.true
    c.row-item.is c.stays.ensures c.loop-row.invariant.marks in
    record {
      each = rw (items, length-append) (omega (arith, each));
      marks = rw items more;
    }
