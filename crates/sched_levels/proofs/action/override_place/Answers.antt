use Rattle.std.proofs.Common.{rules}
use Rattle.std.proofs.lemmas.Cmp.{nat_cmp_total}
use Rattle.std.proofs.lemmas.List.Sorted.{answers_always}
use Rattle.room_base.proofs.OrderedLists.{searched}
use Rattle.sched_levels.specs.Actions.{day_of}
use Rattle.sched_levels.proofs.action.override_place.Goals as goal

-- the closure gives an override's day
pub returns : goal.returns
returns c =
    let facts = c.binary_search_by_key.ensures in
    let by_key = facts.position day_of (answers_always _ _ _ (λ f a r g called. search rules)) in
    searched nat_cmp_total day_of c.args.overrides.now c.requires c.args.day
    c.binary_search_by_key.result facts.bound by_key
