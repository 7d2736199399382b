use Rattle.std.proofs.Common.{rules, ◌∙◌}
use Rattle.std.proofs.lemmas.Cmp.{nat_cmp_total}
use Rattle.std.proofs.lemmas.List.Sorted.{answers_always}
use Rattle.room_base.specs.declared.numbers.Ssid.{Ssid}
use Rattle.room_base.proofs.OrderedLists.{searched}
use Rattle.client_index.proofs.Forgetting.{found_among}
use Rattle.client_index.proofs.index.is_one_of.Goals as goal

pub returns : goal.returns
returns c = λ ascend.
    (let facts = c.binary_search_by_key.ensures in
    let by_number = facts.position (λ (one : Ssid). one.0) (answers_always _ _ _ (λ f a r g called. search rules)) in
    c.is_ok.ensures.value ∙ found_among c.args.ssids.now c.args.ssid _ ascend
    (searched nat_cmp_total (λ (one : Ssid). one.0) c.args.ssids.now ascend c.args.ssid.0 _ facts.bound by_number))
