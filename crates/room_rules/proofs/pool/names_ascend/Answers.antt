use Rattle.std.proofs.Common.{rules}
use Rattle.std.specs.Cmp.Lexicographic.{slice_cmp, nat_list_cmp_total}
use Rattle.std.specs.Ordering.{nat_cmp, is_lt}
use Rattle.std.proofs.lemmas.List.Sorted.{answers_always}
use Rattle.room_rules.specs.declared.pool.Pool.{Pool}
use Rattle.room_base.proofs.OrderedLists.{tested}
use Rattle.room_rules.specs.Pools.{name_of}
use Rattle.room_rules.proofs.pool.names_ascend.Goals as goal

pub returns : goal.returns
returns c =
    tested nat_list_cmp_total name_of _ _ (c.is_sorted_by.ensures.cases (λ (one other : Pool). is_lt (slice_cmp nat_cmp one.name other.name)) (answers_always _ _ _ (λ f a r g called. search rules)))
