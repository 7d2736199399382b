use Rattle.std.proofs.Common.{rules}
use Rattle.std.proofs.lemmas.Cmp.{nat_cmp_total}
use Rattle.std.proofs.lemmas.List.Sorted.{answers_always}
use Rattle.room_base.proofs.OrderedLists.{searched}
use Rattle.save_session.specs.Kept.{number_of}
use Rattle.save_session.proofs.sessions.place_of.Goals as goal

pub returns : goal.returns
returns c =
    let facts = c.binary_search_by_key.ensures in
    searched nat_cmp_total number_of _ c.requires _ _ facts.bound (facts.position number_of (answers_always _ _ _ (λ f a r g called. search rules)))
