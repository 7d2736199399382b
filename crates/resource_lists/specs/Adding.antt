-- Which resources can be added, and which can be dropped.
use Rattle.std.specs.Prelude.{◌≡◌, ◌≢◌, ◌⊎◌, ℕ, ◌+◌, ◌≤◌, List, [], ◌∷◌, length, codes, filter_map}
use Rattle.std.specs.List.{Any, AllByRecursion}
use Rattle.room_rules.specs.declared.group.Group.{Group}
use Rattle.catalog_change.specs.declared.resource.Client.{Client}
use Rattle.catalog_change.specs.declared.resource.Resource.{Resource}
use Rattle.catalog_change.specs.declared.resource.Resource.TheVariants as resources
use Rattle.catalog_change.specs.declared.resource.ResourceKind.{ResourceKind}
use Rattle.catalog_change.specs.declared.resource.ResourceKind.TheVariants as kinds
use Rattle.catalog_change.specs.Catalogues.{Names}
use Rattle.catalog_change.specs.Resources.{
  client_name,
  group_name,
  kind_of,
  name_of,
  policy_name,
  pool_name,
  schedule_name,
}
use Rattle.resource_lists.specs.Kinds.{as_client, as_group, as_policy, as_pool, as_schedule}
use Rattle.resource_lists.specs.Lists.{ResourceLists}

-- the resource of this kind and name is among them
abbrev pub HasResource : ResourceLists → ResourceKind → List ℕ → Type 0
HasResource lists kinds.Policy name = Names policy_name lists.policies name
HasResource lists kinds.Pool name = Names pool_name lists.pools name
HasResource lists kinds.Client name = Names client_name lists.clients name
HasResource lists kinds.Schedule name = Names schedule_name lists.schedules name
HasResource lists kinds.Group name = Names group_name lists.groups name

-- a resource has this kind and name
abbrev pub IsNamed : ResourceKind → List ℕ → Resource → Type 0
IsNamed kind name resource = (kind_of resource ≡ kind) × (name_of resource ≡ name)

-- the resource of this kind and name is there, or among the new ones
abbrev pub IsThere : ResourceLists → List Resource → ResourceKind → List ℕ → Type 0
IsThere lists new kind name = HasResource lists kind name ⊎ Any (IsNamed kind name) new

-- no two of them have one kind and name
abbrev pub AreDistinct : List Resource → Type 0
AreDistinct [] = Unit {0}
AreDistinct (resource ∷ others) =
    AllByRecursion (λ other. ¬ IsNamed (kind_of resource) (name_of resource) other) others
    × AreDistinct others

-- what a resource refers to is there, or among the new ones
abbrev pub Refers : ResourceLists → List Resource → Resource → Type 0
Refers lists new (resources.Client client) =
    IsThere lists new kinds.Policy client.browse
    × IsThere lists new kinds.Policy client.retention
Refers lists new (resources.Group group) =
    IsThere lists new kinds.Schedule group.schedule
    × AllByRecursion (λ member. IsThere lists new kinds.Client member.client) group.members
Refers lists new (resources.Policy policy) = Unit {0}
Refers lists new (resources.Pool pool) = Unit {0}
Refers lists new (resources.Schedule schedule) = Unit {0}

-- resources that can be added
pub record AreAddable (lists : ResourceLists) (new : List Resource) : Type 0 where
  pub distinct : AreDistinct new
  pub absent : AllByRecursion (λ resource.
      ¬ HasResource lists (kind_of resource) (name_of resource)) new
  pub refer : AllByRecursion (Refers lists new) new

-- no client names the policy
abbrev pub IsNotPolicyOf : List ℕ → Client → Type 0
IsNotPolicyOf name client = (client.browse ≢ name) × (client.retention ≢ name)

-- the client is no member of the group
abbrev pub IsNotMemberOf : List ℕ → Group → Type 0
IsNotMemberOf name group = AllByRecursion (λ member. member.client ≢ name) group.members

-- none of them needs the resource
abbrev pub IsUnused : ResourceLists → ResourceKind → List ℕ → Type 0
IsUnused lists kinds.Policy name = AllByRecursion (IsNotPolicyOf name) lists.clients
IsUnused lists kinds.Pool name = name ≢ codes "Default"
IsUnused lists kinds.Client name =
    (name ≢ codes "room") × AllByRecursion (IsNotMemberOf name) lists.groups
IsUnused lists kinds.Schedule name =
    AllByRecursion (λ group. group.schedule ≢ name) lists.groups
IsUnused lists kinds.Group name = Unit {0}

-- the most resources of a kind
abbrev pub max_of_kind : ℕ
max_of_kind = 256

-- there are at most so many of each kind, with the new ones
pub record StayWithin (lists : ResourceLists) (new : List Resource) : Type 0 where
  pub policies : length lists.policies + length (filter_map as_policy new) ≤ max_of_kind
  pub pools : length lists.pools + length (filter_map as_pool new) ≤ max_of_kind
  pub clients : length lists.clients + length (filter_map as_client new) ≤ max_of_kind
  pub schedules : length lists.schedules + length (filter_map as_schedule new) ≤ max_of_kind
  pub groups : length lists.groups + length (filter_map as_group new) ≤ max_of_kind
