use Rattle.std.proofs.Common.{◌≡◌, ℕ, slice_index_or, List, subst, sym, ap, ◌∙◌}
use Rattle.std.proofs.lemmas.List.{get_or_default}
use Rattle.room_catalog.specs.Held.{HeldCatalogue}
use Rattle.room_rules.specs.declared.pool.Pool.{Pool}
use Rattle.room_rules.specs.Pools.{HasDefault, IsPoolOf, Save}
use Rattle.save_begin.specs.Heading.{IsPoolFor, group_or_none, save_of}
use Rattle.save_begin.proofs.Heads.{pool_within}
use Rattle.save_begin.proofs.PoolNames.{has_default}
use Rattle.save_begin.proofs.heading.pool_for.Goals as goal

pub pool_of-place-requires-clause-default : goal.pool_of-place-requires-clause-default
pool_of-place-requires-clause-default c =
    let D : List Pool → Type 0 = λ pools. HasDefault pools in
    subst D (sym c.pools-pools.ensures) (has_default c.catalogue-catalogue.result.now.lists c.number-held.ensures.held)

pub returns : goal.returns
returns c =
    let asked = c.args.asked.now in
    let pools = c.pools-pools.result.now in
    let place = c.pool_of-place.result in
    let lists = c.args.room.now.room.catalogue.resources.pools in
    let are : pools ≡ lists = c.pools-pools.ensures ∙ ap (λ (held : HeldCatalogue). held.lists.resources.pools) c.catalogue-catalogue.ensures in
    let S : List ℕ → List ℕ → List ℕ → Save = λ group client set. record { group = group; client = client; set = set; level = c.args.level } in
    let save : S c.as_bytes.result.now c.as_bytes-2.result.now c.as_bytes-3.result.now ≡ save_of asked c.args.level =
    ap (λ (group : List ℕ). S group c.as_bytes-2.result.now c.as_bytes-3.result.now) (c.as_bytes.ensures.value ∙ c.requires)
    ∙ ap (λ (client : List ℕ). S (group_or_none asked.group) client c.as_bytes-3.result.now) c.as_bytes-2.ensures.value
    ∙ ap (λ (set : List ℕ). S (group_or_none asked.group) asked.client set) c.as_bytes-3.ensures.value in
    let O : Save → Type 0 = λ one. IsPoolOf pools one place in
    let of : IsPoolOf pools (save_of asked c.args.level) place = subst O save c.pool_of-place.ensures in
    let P : List Pool → Type 0 = λ all. IsPoolFor (save_of asked c.args.level) all (slice_index_or pools place c.index-pools-place.result).name in
    subst P are (record {
      place = place;
      is = of;
      named = λ d. ap (λ (pool : Pool). pool.name) (get_or_default pools place d c.index-pools-place.result (pool_within pools (save_of asked c.args.level) place of));
    })
