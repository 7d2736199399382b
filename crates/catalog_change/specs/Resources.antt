-- What resources are known by, and which of them are allowed.
use Rattle.std.specs.Prelude.{ℕ, ◌≤◌, List, length}
use Rattle.std.specs.List.{AllByRecursion}
use Rattle.std.specs.Ordering.{nat_cmp}
use Rattle.room_base.specs.Ordered.{Ascends}
use Rattle.room_rules.specs.declared.group.Group.{Group}
use Rattle.room_rules.specs.declared.group.Member.{Member}
use Rattle.room_rules.specs.declared.policy.Policy.{Policy}
use Rattle.room_rules.specs.declared.pool.Pool.{Pool}
use Rattle.room_rules.specs.declared.schedule.Override.{Override}
use Rattle.room_rules.specs.declared.schedule.Schedule.{Schedule}
use Rattle.save_stream.specs.Spelling.{IsNameTo}
use Rattle.catalog_change.specs.declared.resource.Client.{Client}
use Rattle.catalog_change.specs.declared.resource.Resource.{Resource}
use Rattle.catalog_change.specs.declared.resource.Resource.TheVariants as resources
use Rattle.catalog_change.specs.declared.resource.ResourceKind.{ResourceKind}
use Rattle.catalog_change.specs.declared.resource.ResourceKind.TheVariants as kinds

-- ---- what they are known by

abbrev pub kind_of : Resource → ResourceKind
kind_of (resources.Policy policy) = kinds.Policy
kind_of (resources.Pool pool) = kinds.Pool
kind_of (resources.Client client) = kinds.Client
kind_of (resources.Schedule schedule) = kinds.Schedule
kind_of (resources.Group group) = kinds.Group

abbrev pub name_of : Resource → List ℕ
name_of (resources.Policy policy) = policy.name
name_of (resources.Pool pool) = pool.name
name_of (resources.Client client) = client.name
name_of (resources.Schedule schedule) = schedule.name
name_of (resources.Group group) = group.name

abbrev pub policy_name : Policy → List ℕ
policy_name policy = policy.name

abbrev pub pool_name : Pool → List ℕ
pool_name pool = pool.name

abbrev pub client_name : Client → List ℕ
client_name client = client.name

abbrev pub schedule_name : Schedule → List ℕ
schedule_name schedule = schedule.name

abbrev pub group_name : Group → List ℕ
group_name group = group.name

-- ---- which are allowed

-- a name of at most 64 bytes
abbrev pub IsShortName : List ℕ → Type 0
IsShortName = IsNameTo 64

-- the name of a save set
abbrev pub IsSetName : List ℕ → Type 0
IsSetName = IsNameTo 255

-- at most so many items, each of which is allowed
pub record IsListTo {X : Type 0} (most : ℕ) (Is : X → Type 0) (items : List X) : Type 0 where
  pub count : length items ≤ most
  pub each : AllByRecursion Is items

pub record IsPolicy (policy : Policy) : Type 0 where
  pub name : IsShortName policy.name
  pub count : (1 ≤ policy.count) × (policy.count ≤ 9999)

pub record IsPool (pool : Pool) : Type 0 where
  pub name : IsShortName pool.name
  pub groups : IsListTo 64 IsShortName pool.groups
  pub clients : IsListTo 64 IsShortName pool.clients
  pub sets : IsListTo 64 IsSetName pool.sets
  pub levels : length pool.levels ≤ 64

pub record IsClient (client : Client) : Type 0 where
  pub name : IsShortName client.name
  pub browse : IsShortName client.browse
  pub retention : IsShortName client.retention

-- the last day that a calendar of four digits has, but one year: 9998-12-31
abbrev pub max_day : ℕ
max_day = 2932531

abbrev pub day_of : Override → ℕ
day_of override = override.day

abbrev pub IsOverride : Override → Type 0
IsOverride override = override.day ≤ max_day

pub record IsSchedule (schedule : Schedule) : Type 0 where
  pub name : IsShortName schedule.name
  pub actions : (1 ≤ length schedule.actions) × (length schedule.actions ≤ 31)
  pub overrides : IsListTo 64 IsOverride schedule.overrides
  pub order : Ascends nat_cmp day_of schedule.overrides

pub record IsMember (member : Member) : Type 0 where
  pub client : IsShortName member.client
  pub set : IsSetName member.set

pub record IsGroup (group : Group) : Type 0 where
  pub name : IsShortName group.name
  pub schedule : IsShortName group.schedule
  pub members : IsListTo 256 IsMember group.members

-- a resource that is allowed by itself
abbrev pub IsResource : Resource → Type 0
IsResource (resources.Policy policy) = IsPolicy policy
IsResource (resources.Pool pool) = IsPool pool
IsResource (resources.Client client) = IsClient client
IsResource (resources.Schedule schedule) = IsSchedule schedule
IsResource (resources.Group group) = IsGroup group
