use Rattle.std.proofs.Common.{rules}
use Rattle.std.proofs.lemmas.Cmp.{nat_cmp_total}
use Rattle.std.proofs.lemmas.List.Sorted.{answers_always}
use Rattle.room_base.proofs.OrderedLists.{searched}
use Rattle.media_db.specs.Rows.{ssid_of}
use Rattle.dep_chain.proofs.marks.place_of.Goals as goal

-- the closure gives a record's ssid
pub returns : goal.returns
returns c =
    let facts = c.binary_search_by_key.ensures in
    let by_key = facts.position ssid_of (answers_always _ _ _ (λ f a r g called. search rules)) in
    searched nat_cmp_total ssid_of _ c.requires.ascending _ _ facts.bound by_key
