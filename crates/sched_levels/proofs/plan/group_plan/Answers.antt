use Rattle.sched_levels.specs.Plans.{IsPlanned}
use Rattle.sched_levels.proofs.Plans.{one_more}
use Rattle.sched_levels.proofs.plan.group_plan.Goals as goal

pub loop-member-preserved : goal.loop-member-preserved
loop-member-preserved c =
    rw c.in_ok-push.ensures.items
    (one_more (IsPlanned c.args.db.now.records c.level_on-action.result)
    c.as_slice-members.result.now c.loop-member.plan.items c.loop-member.member-index
    c.member-item.result c.in_ok-planned.field-0 c.loop-member-test.true c.member-item.is
    c.loop-member.invariant c.in_ok-planned.ensures)
