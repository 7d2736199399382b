use Rattle.std.proofs.Common.{rules}
use Rattle.std.specs.Cmp.Lexicographic.{slice_cmp, nat_list_cmp_total}
use Rattle.std.specs.Ordering.{nat_cmp}
use Rattle.std.proofs.lemmas.Fn.{always_returns_same}
use Rattle.save_stream.specs.declared.entry.IndexEntry.{IndexEntry}
use Rattle.room_base.proofs.OrderedLists.{searched}
use Rattle.client_index.proofs.entries.place_of.Goals as goal

-- the closure compares with the path that was passed
pub returns : goal.returns
returns c =
    let facts = c.binary_search_by.ensures in
    let compared = facts.position (λ (entry : IndexEntry). slice_cmp nat_cmp entry.path c.args.path.now) (always_returns_same _ _ _ (λ a r g called. (search rules, search rules))) in
    searched nat_list_cmp_total (λ (entry : IndexEntry). entry.path) _ c.requires _ _ facts.bound compared
