use Rattle.std.proofs.Common.{rules}
use Rattle.std.specs.Cmp.Lexicographic.{slice_cmp, nat_list_cmp_total}
use Rattle.std.specs.Ordering.{nat_cmp, is_lt}
use Rattle.std.proofs.lemmas.List.Sorted.{answers_always}
use Rattle.save_stream.specs.declared.entry.IndexEntry.{IndexEntry}
use Rattle.room_base.proofs.OrderedLists.{tested}
use Rattle.save_stream.specs.Spelling.{path_of}
use Rattle.client_index.proofs.entries.paths_ascend.Goals as goal

pub returns : goal.returns
returns c =
    tested nat_list_cmp_total path_of _ _ (c.is_sorted_by.ensures.cases (λ (one other : IndexEntry). is_lt (slice_cmp nat_cmp one.path other.path)) (answers_always _ _ _ (λ f a r g called. search rules)))
