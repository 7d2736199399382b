-- The pools on record are those that a save can be placed in.
use Rattle.std.proofs.Common.{◌≡◌, ◌<◌, ◌^◌, length, refl, arith}
use Rattle.std.specs.Cmp.Lexicographic.{nat_list_cmp_total}
use Rattle.std.specs.Prelude.{Option, Some, None, IsSome, codes}
use Rattle.room_base.proofs.OrderedLaws.{found_has_key, found_listed}
use Rattle.room_rules.specs.declared.pool.Pool.{Pool}
use Rattle.room_rules.specs.Pools.{HasDefault}
use Rattle.catalog_change.specs.Resources.{pool_name}
use Rattle.resource_lists.specs.Kinds.{find_named}
use Rattle.room_catalog.specs.Held.{CatalogueLists}
use Rattle.room_catalog.specs.Invariant.{IsHeld}
use Rattle.room_catalog.proofs.Found.{same_name}

module _ (lists : CatalogueLists) (held : IsHeld lists) where
  pub has_default : HasDefault lists.resources.pools
  has_default = by (find_named pool_name (codes "Default") lists.resources.pools) refl held.catalogue.resources.default
    where
      by : (found : Option Pool) → find_named pool_name (codes "Default") lists.resources.pools ≡ found → IsSome found → HasDefault lists.resources.pools
      by None is some = absurd (cc some)
      by (Some pool) is some =
          let listed = found_listed nat_list_cmp_total pool_name (codes "Default") pool lists.resources.pools is in
          let key = found_has_key nat_list_cmp_total pool_name (codes "Default") pool lists.resources.pools is in
          (listed.0, pool, listed.1, listed.2, same_name pool.name (codes "Default") key)

  pub few_pools : length lists.resources.pools < 2 ^ 32
  few_pools = omega (arith, held.catalogue.resources.count)
