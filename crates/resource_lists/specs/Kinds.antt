-- Resources by their kinds.
use Rattle.std.specs.Prelude.{ℕ, List, [], ◌∷◌, Bool, true, false, Option, Some, None}
use Rattle.std.specs.Ordering.{nat_cmp}
use Rattle.std.specs.Cmp.Lexicographic.{slice_cmp}
use Rattle.room_base.specs.Ordered.{Ascends, find_by, put_by, remove_by}
use Rattle.room_rules.specs.declared.group.Group.{Group}
use Rattle.room_rules.specs.declared.policy.Policy.{Policy}
use Rattle.room_rules.specs.declared.pool.Pool.{Pool}
use Rattle.room_rules.specs.declared.schedule.Schedule.{Schedule}
use Rattle.catalog_change.specs.declared.resource.Client.{Client}
use Rattle.catalog_change.specs.declared.resource.Resource.{Resource}
use Rattle.catalog_change.specs.declared.resource.Resource.TheVariants as resources
use Rattle.catalog_change.specs.declared.resource.ResourceKind.{ResourceKind}
use Rattle.catalog_change.specs.declared.resource.ResourceKind.TheVariants as kinds
use Rattle.catalog_change.specs.Resources.{
  client_name,
  group_name,
  policy_name,
  pool_name,
  schedule_name,
}
use Rattle.resource_lists.specs.Lists.{ResourceLists}

-- ---- the resources of one kind

abbrev pub as_policy : Resource → Option Policy
as_policy (resources.Policy policy) = Some policy
as_policy (resources.Pool pool) = None
as_policy (resources.Client client) = None
as_policy (resources.Schedule schedule) = None
as_policy (resources.Group group) = None

abbrev pub as_pool : Resource → Option Pool
as_pool (resources.Policy policy) = None
as_pool (resources.Pool pool) = Some pool
as_pool (resources.Client client) = None
as_pool (resources.Schedule schedule) = None
as_pool (resources.Group group) = None

abbrev pub as_client : Resource → Option Client
as_client (resources.Policy policy) = None
as_client (resources.Pool pool) = None
as_client (resources.Client client) = Some client
as_client (resources.Schedule schedule) = None
as_client (resources.Group group) = None

abbrev pub as_schedule : Resource → Option Schedule
as_schedule (resources.Policy policy) = None
as_schedule (resources.Pool pool) = None
as_schedule (resources.Client client) = None
as_schedule (resources.Schedule schedule) = Some schedule
as_schedule (resources.Group group) = None

abbrev pub as_group : Resource → Option Group
as_group (resources.Policy policy) = None
as_group (resources.Pool pool) = None
as_group (resources.Client client) = None
as_group (resources.Schedule schedule) = None
as_group (resources.Group group) = Some group

abbrev pub is_kind : ResourceKind → ResourceKind → Bool
is_kind kinds.Policy kinds.Policy = true
is_kind kinds.Pool kinds.Pool = true
is_kind kinds.Client kinds.Client = true
is_kind kinds.Schedule kinds.Schedule = true
is_kind kinds.Group kinds.Group = true
is_kind _ _ = false

-- ---- lists in the order of names

abbrev pub find_named : {X : Type 0} → (X → List ℕ) → List ℕ → List X → Option X
find_named = find_by (slice_cmp nat_cmp)

abbrev pub remove_named : {X : Type 0} → (X → List ℕ) → List ℕ → List X → List X
remove_named = remove_by (slice_cmp nat_cmp)

abbrev pub put_named : {X : Type 0} → (X → List ℕ) → X → List X → List X
put_named = put_by (slice_cmp nat_cmp)

-- the list with each of the items in its place
abbrev pub put_each : {X : Type 0} → (X → List ℕ) → List X → List X → List X
put_each name [] list = list
put_each name (item ∷ items) list = put_each name items (put_named name item list)

-- each list is in the order of its names
pub record AreInOrder (lists : ResourceLists) : Type 0 where
  pub policies : Ascends (slice_cmp nat_cmp) policy_name lists.policies
  pub pools : Ascends (slice_cmp nat_cmp) pool_name lists.pools
  pub clients : Ascends (slice_cmp nat_cmp) client_name lists.clients
  pub schedules : Ascends (slice_cmp nat_cmp) schedule_name lists.schedules
  pub groups : Ascends (slice_cmp nat_cmp) group_name lists.groups
