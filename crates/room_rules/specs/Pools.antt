-- Which pool a save goes to.
use Rattle.std.specs.Prelude.{◌≡◌, ◌≢◌, ◌⊎◌, ℕ, ◌<◌, List, [], length, codes, Contains, Option}
use Rattle.std.specs.Prelude.{Some, None}
use Rattle.std.specs.List.{Any, HoldsAt, AllWithin}
use Rattle.std.specs.Ordering.{nat_cmp}
use Rattle.std.specs.Cmp.Lexicographic.{slice_cmp}
use Rattle.room_base.specs.Ordered.{Ascends}
use Rattle.room_rules.specs.declared.pool.Pool.{Pool}

-- what a pool's criteria are asked of; a save without a group has an empty one
pub record Save : Type 0 where
  pub group : List ℕ
  pub client : List ℕ
  pub set : List ℕ
  pub level : ℕ

-- a criterion that has items has this one
abbrev pub Allows : {X : Type 0} → List X → X → Type 0
Allows items item = (items ≡ []) ⊎ Contains items item

-- some criterion has items
abbrev pub HasCriterion : Pool → Type 0
HasCriterion pool =
    (pool.groups ≢ []) ⊎ (pool.clients ≢ []) ⊎ (pool.sets ≢ []) ⊎ (pool.levels ≢ [])

-- the save meets each criterion that has items, and there is one
pub record Matches (pool : Pool) (save : Save) : Type 0 where
  pub some : HasCriterion pool
  pub group : Allows pool.groups save.group
  pub client : Allows pool.clients save.client
  pub set : Allows pool.sets save.set
  pub level : Allows pool.levels save.level

abbrev pub name_of : Pool → List ℕ
name_of pool = pool.name

abbrev pub IsDefault : Pool → Type 0
IsDefault pool = pool.name ≡ codes "Default"

-- one of the pools is `Default`
abbrev pub HasDefault : List Pool → Type 0
HasDefault pools = Any IsDefault pools

-- the names ascend strictly by bytes
abbrev pub NamesAscend : List Pool → Type 0
NamesAscend pools = Ascends (slice_cmp nat_cmp) name_of pools

-- another pool than `Default` that the save matches
abbrev pub IsChosen : Save → Pool → Type 0
IsChosen save pool = ¬ IsDefault pool × Matches pool save

-- the first place of such a pool, where there is one
abbrev pub IsFirstChosen : List Pool → Save → Option ℕ → Type 0
IsFirstChosen pools save None = AllWithin (λ pool. ¬ IsChosen save pool) pools 0 (length pools)
IsFirstChosen pools save (Some at) = (at < length pools) × HoldsAt (IsChosen save) pools at
    × AllWithin (λ pool. ¬ IsChosen save pool) pools 0 at

-- The place of the pool that a save goes to: the first that it matches, in the order of the names,
-- and where there is none that of `Default`, which every save matches.
abbrev pub IsPoolOf : List Pool → Save → ℕ → Type 0
IsPoolOf pools save at = IsFirstChosen pools save (Some at)
    ⊎ (IsFirstChosen pools save None × (at < length pools) × HoldsAt IsDefault pools at)
