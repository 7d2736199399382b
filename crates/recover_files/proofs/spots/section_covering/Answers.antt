use Rattle.std.proofs.Common.{◌≡◌, ◌∙◌, sym, leb, leb-true, leb-false, arith, rules}
use Rattle.std.specs.Prelude.{slice_get}
use Rattle.std.specs.List.{find}
use Rattle.std.proofs.lemmas.List.Sorted.{IsPartitionPoint-from_clause, IsPartitionedBy-leb}
use Rattle.std.proofs.lemmas.Option.{slice_get-get_or, slice_get_past}
use Rattle.media_db.specs.declared.copies.Section.{Section}
use Rattle.recover_files.specs.StreamAt.{covers_place}
use Rattle.recover_files.proofs.Covering.{ends_ascend, find_covering}
use Rattle.recover_files.proofs.spots.section_covering.Goals as goal

pub returns-then-index-sections : goal.returns-then-index-sections
returns-then-index-sections c =
    let sections = c.args.sections.now in
    let place = c.args.place in
    let index = c.partition_point-index.result in
    let parted = IsPartitionedBy-leb (λ (one : Section). one.to) sections place (ends_ascend sections 0 c.requires) in
    let point = IsPartitionPoint-from_clause (λ (one : Section). leb one.to place) sections index
    c.partition_point-index.ensures.partitioned parted (λ a r q k. search rules) in
    let is : find (covers_place place) sections ≡ slice_get sections index =
    find_covering place sections 0 index c.requires (omega arith)
    (λ k d below. leb-true _ _ (point.0 k d (omega arith) below))
    (λ k d above inside. leb-false _ _ (point.1 k d above inside)) in
    sym (is ∙ slice_get-get_or sections index _ c.if-index-sections.true)

pub returns-else-index-sections : goal.returns-else-index-sections
returns-else-index-sections c =
    let sections = c.args.sections.now in
    let place = c.args.place in
    let index = c.partition_point-index.result in
    let parted = IsPartitionedBy-leb (λ (one : Section). one.to) sections place (ends_ascend sections 0 c.requires) in
    let point = IsPartitionPoint-from_clause (λ (one : Section). leb one.to place) sections index
    c.partition_point-index.ensures.partitioned parted (λ a r q k. search rules) in
    let is : find (covers_place place) sections ≡ slice_get sections index =
    find_covering place sections 0 index c.requires (omega arith)
    (λ k d below. leb-true _ _ (point.0 k d (omega arith) below))
    (λ k d above inside. leb-false _ _ (point.1 k d above inside)) in
    sym (is ∙ slice_get_past sections index c.if-index-sections.false)
