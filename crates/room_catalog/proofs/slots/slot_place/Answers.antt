use Rattle.std.proofs.Common.{rules}
use Rattle.std.proofs.lemmas.Cmp.{nat_cmp_total}
use Rattle.std.proofs.lemmas.List.Sorted.{answers_always}
use Rattle.room_base.proofs.OrderedLists.{searched}
use Rattle.catalog_change.specs.Catalogues.{slot_number}
use Rattle.room_catalog.proofs.slots.slot_place.Goals as goal

-- the closure gives the number of a slot
pub returns : goal.returns
returns c =
    let facts = c.binary_search_by_key.ensures in
    let by_key = facts.position slot_number (answers_always _ _ _ (λ f a r g called. search rules)) in
    searched nat_cmp_total slot_number _ c.requires _ _ facts.bound by_key
