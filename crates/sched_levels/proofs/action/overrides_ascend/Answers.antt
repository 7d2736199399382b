use Rattle.std.proofs.Common.{rules}
use Rattle.std.specs.Ordering.{nat_cmp, is_lt}
use Rattle.std.proofs.lemmas.Cmp.{nat_cmp_total}
use Rattle.std.proofs.lemmas.List.Sorted.{answers_always}
use Rattle.room_rules.specs.declared.schedule.Override.{Override}
use Rattle.room_base.proofs.OrderedLists.{tested}
use Rattle.sched_levels.specs.Actions.{day_of}
use Rattle.sched_levels.proofs.action.overrides_ascend.Goals as goal

pub returns : goal.returns
returns c =
    tested nat_cmp_total day_of _ _ (c.is_sorted_by.ensures.cases
    (λ (one other : Override). is_lt (nat_cmp one.day other.day))
    (answers_always _ _ _ (λ f a r g called. search rules)))
