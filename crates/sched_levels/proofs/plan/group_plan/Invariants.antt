use Rattle.std.proofs.Common.{take}
use Rattle.sched_levels.specs.Plans.{IsPlan}
use Rattle.sched_levels.proofs.plan.group_plan.Given as goal

-- the members before the index are planned
abbrev pub invariant-loop-member : goal.invariant-loop-member
invariant-loop-member l = IsPlan l.db.records l.action (take l.member-index l.members) l.plan.items
