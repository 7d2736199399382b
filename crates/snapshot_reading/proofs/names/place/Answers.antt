use Rattle.std.proofs.Common.{rules}
use Rattle.std.specs.Cmp.Lexicographic.{slice_cmp, nat_list_cmp_total}
use Rattle.std.specs.Ordering.{nat_cmp}
use Rattle.std.proofs.lemmas.Fn.{always_returns_same}
use Rattle.room_base.proofs.OrderedLists.{searched}
use Rattle.snapshot_reading.proofs.names.place.Goals as goal

-- the closure compares with the name that was passed
pub returns : goal.returns
returns g c =
    let facts = c.binary_search_by.ensures in
    let compared = facts.position (λ item. slice_cmp nat_cmp (g.T.Named.key item) c.args.name.now) (always_returns_same _ _ _ (λ a r h called. (search rules, search rules))) in
    searched nat_list_cmp_total g.T.Named.key _ c.requires _ _ facts.bound compared
