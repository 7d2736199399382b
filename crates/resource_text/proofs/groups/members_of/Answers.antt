use Rattle.std.proofs.Common.{arith}
use Rattle.std.proofs.lemmas.Result.{err_from_is_err_and}
use Rattle.std.proofs.Common.{codes}
use Rattle.resource_text.specs.Resources.{IsMemberTable}
use Rattle.resource_text.proofs.Items.{all_read_at, one_more_at, stops_here, too_many}
use Rattle.resource_text.proofs.groups.members_of.Goals as goal

pub returns-then-array-gt-MAX_MEMBERS : goal.returns-then-array-gt-MAX_MEMBERS
returns-then-array-gt-MAX_MEMBERS c =
    too_many (codes "members") IsMemberTable 256 c.args.array.now c.malformed.result c.malformed.ensures (omega arith)

pub returns-in_err-member_of : goal.returns-in_err-member_of
returns-in_err-member_of c =
    let p = err_from_is_err_and c.from_residual-in_err-member_of.result c.from_residual-in_err-member_of.ensures.1 in
    rw (p.1, p.2) (stops_here (codes "members") IsMemberTable 256 c.args.array.now c.loop-value.value-index c.value-item.result
    c.loop-value.members.items c.in_err-member_of.field-0.0 c.loop-value-test.true c.value-item.is c.loop-value.invariant c.in_err-member_of.ensures)

pub loop-value-preserved : goal.loop-value-preserved
loop-value-preserved c =
    one_more_at IsMemberTable c.args.array.now c.loop-value.value-index c.value-item.result c.loop-value.members.items
    c.push.new.self.items c.in_ok-member_of.field-0 c.loop-value-test.true c.value-item.is c.loop-value.invariant
    c.in_ok-member_of.ensures c.in_ok-push.ensures.items

pub returns : goal.returns
returns c =
    all_read_at IsMemberTable 256 c.args.array.now c.loop-value.value-index c.loop-value.members.items c.of.result
    c.loop-value-test.false c.loop-value.invariant c.of.ensures (omega arith)
