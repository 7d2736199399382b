use Rattle.std.proofs.Common.{rules}
use Rattle.std.proofs.lemmas.Cmp.{nat_cmp_total}
use Rattle.std.proofs.lemmas.List.Sorted.{answers_always}
use Rattle.client_index.specs.declared.index.SetIndex.{SetIndex}
use Rattle.room_base.proofs.OrderedLists.{searched}
use Rattle.client_index.proofs.index.ClientIndex.search.Goals as goal

pub returns : goal.returns
returns c =
    let facts = c.binary_search_by_key.ensures in
    let by_number = facts.position (λ (set : SetIndex). set.ssid.0) (answers_always _ _ _ (λ f a r g called. search rules)) in
    rw (← c.self.view_is, ← c.deref.ensures.value) (searched nat_cmp_total (λ (set : SetIndex). set.ssid.0) _ (rw c.deref.ensures.value c.self.invariant.numbers) _ _ facts.bound by_number)
