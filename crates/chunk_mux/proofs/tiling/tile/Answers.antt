use Rattle.std.proofs.Common.{rules, subst, sym, All, List}
use Rattle.std.proofs.lemmas.List.Sorted.{answers_always, All-permutation}
use Rattle.chunk_mux.specs.Tiles.{IsInStream}
use Rattle.chunk_mux.specs.declared.tiling.Placed.{Placed}
use Rattle.chunk_mux.proofs.InOrder.{apart_sorted, in_order}
use Rattle.chunk_mux.proofs.tiling.tile.Goals as goal

pub walk-requires : goal.walk-requires
walk-requires c =
    let P : List Placed → Type 0 = All IsInStream in
    subst P (sym c.deref.ensures.value) (All-permutation IsInStream _ _ c.sort_unstable_by_key.ensures.permutation c.requires)

pub returns-clause-sorted : goal.returns-clause-sorted
returns-clause-sorted c =
    c.sort_unstable_by_key.ensures.sorted (λ (chunk : Placed). (chunk.offset, chunk.volid, chunk.block, chunk.start))
    (answers_always _ _ _ (λ f a r g h. search rules))

pub returns-clause-strict : goal.returns-clause-strict
returns-clause-strict c = λ apart.
    in_order _ (returns-clause-sorted c) (apart_sorted _ _ c.sort_unstable_by_key.ensures.permutation apart)
