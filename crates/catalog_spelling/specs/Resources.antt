-- Resources as bytes.
use Rattle.std.specs.Prelude.{ℕ, ◌≤◌, Bool, true, ◌&&◌, nat_lt, nat_le}
use Rattle.std.specs.Prelude.{List, [], ◌∷◌, ◌++◌, Ok}
use Rattle.std.specs.List.{AllByRecursion}
use Rattle.room_rules.specs.declared.group.Member.{Member}
use Rattle.room_rules.specs.declared.policy.Unit.TheVariants as units
use Rattle.room_rules.specs.declared.policy.Unit as unit
use Rattle.room_rules.specs.declared.schedule.Override.{Override}
use Rattle.room_rules.specs.declared.schedule.Period.{Period}
use Rattle.room_rules.specs.declared.schedule.Period.TheVariants as periods
use Rattle.save_stream.specs.Spelling.{short_text}
use Rattle.catalog_change.specs.declared.resource.Resource.{Resource}
use Rattle.catalog_change.specs.declared.resource.Resource.TheVariants as resources
use Rattle.catalog_change.specs.declared.resource.ResourceKind.{ResourceKind}
use Rattle.catalog_change.specs.declared.resource.ResourceKind.TheVariants as kinds
use Rattle.catalog_change.specs.Resources.{kind_of, max_day}
use Rattle.catalog_spelling.specs.Reading.{Part, ◌>>=◌, checked}
use Rattle.catalog_spelling.specs.Fields.{
  byte_text,
  number_bytes,
  number_at,
  number_within_at,
  byte_within_at,
  code_at,
  name_at,
}
use Rattle.catalog_spelling.specs.Lists.{list_at, list_text, last_item, by_item}
use Rattle.catalog_spelling.specs.Kinds.{Readers, by_kind_at}

-- ---- bytes that stand for something

-- the bytes of kinds: `P`, `O`, `C`, `S` and `G`
abbrev pub resource_kinds : List (ℕ × ResourceKind)
resource_kinds =
    (0x50, kinds.Policy) ∷ (0x4F, kinds.Pool) ∷ (0x43, kinds.Client) ∷ (0x53, kinds.Schedule)
    ∷ (0x47, kinds.Group) ∷ []

abbrev pub resource_byte : ResourceKind → ℕ
resource_byte kinds.Policy = 0x50
resource_byte kinds.Pool = 0x4F
resource_byte kinds.Client = 0x43
resource_byte kinds.Schedule = 0x53
resource_byte kinds.Group = 0x47

abbrev pub unit_kinds : List (ℕ × unit.Unit)
unit_kinds =
    (0, units.Days) ∷ (1, units.Weeks) ∷ (2, units.Months) ∷ (3, units.Years) ∷ []

abbrev pub unit_byte : unit.Unit → ℕ
unit_byte units.Days = 0
unit_byte units.Weeks = 1
unit_byte units.Months = 2
unit_byte units.Years = 3

abbrev pub period_kinds : List (ℕ × Period)
period_kinds = (0, periods.Week) ∷ (1, periods.Month) ∷ []

abbrev pub period_byte : Period → ℕ
period_byte periods.Week = 0
period_byte periods.Month = 1

-- a level is a rank, and an action a rank or 11 for skip
abbrev pub level_at : List ℕ → Part ℕ
level_at bytes = byte_within_at 0 10 bytes

abbrev pub action_at : List ℕ → Part ℕ
action_at bytes = byte_within_at 0 11 bytes

-- ---- lists

-- names of at most so many bytes, at most 64
abbrev pub names_at : ℕ → List ℕ → Part (List (List ℕ))
names_at most bytes = list_at (number_within_at 2 0 64) (λ before. name_at most) bytes

abbrev pub names_text : List (List ℕ) → List ℕ
names_text names = list_text (number_bytes 2) short_text names

abbrev pub levels_at : List ℕ → Part (List ℕ)
levels_at bytes = list_at (number_within_at 2 0 64) (λ before. level_at) bytes

abbrev pub levels_text : List ℕ → List ℕ
levels_text levels = list_text (number_bytes 2) byte_text levels

abbrev pub actions_at : List ℕ → Part (List ℕ)
actions_at bytes = list_at (byte_within_at 1 31) (λ before. action_at) bytes

abbrev pub actions_text : List ℕ → List ℕ
actions_text actions = list_text byte_text byte_text actions

-- a day is one of the calendar, and above that of the last of these
abbrev pub is_next_day : List Override → ℕ → Bool
is_next_day before day =
    nat_le day max_day && by_item true (λ last. nat_lt last.day day) (last_item before)

abbrev pub override_text : Override → List ℕ
override_text one = number_bytes 4 one.day ++ byte_text one.action

unfoldable pub override_at : List Override → List ℕ → Part Override
override_at before bytes = do
  day ← checked (is_next_day before) bytes (number_at 4 bytes)
  action ← action_at day.1
  Ok (record { day = day.0; action = action.0 }, action.1)

abbrev pub overrides_at : List ℕ → Part (List Override)
overrides_at bytes = list_at (byte_within_at 0 64) override_at bytes

abbrev pub overrides_text : List Override → List ℕ
overrides_text overrides = list_text byte_text override_text overrides

abbrev pub member_text : Member → List ℕ
member_text member = short_text member.client ++ short_text member.set

unfoldable pub member_at : List ℕ → Part Member
member_at bytes = do
  client ← name_at 64 bytes
  set ← name_at 255 client.1
  Ok (record { client = client.0; set = set.0 }, set.1)

abbrev pub members_at : List ℕ → Part (List Member)
members_at bytes = list_at (number_within_at 2 0 256) (λ before. member_at) bytes

abbrev pub members_text : List Member → List ℕ
members_text members = list_text (number_bytes 2) member_text members

-- ---- the fields of each kind

abbrev pub fields_text : Resource → List ℕ
fields_text (resources.Policy policy) =
    short_text policy.name ++ number_bytes 4 policy.count ++ byte_text (unit_byte policy.unit)
fields_text (resources.Pool pool) =
    short_text pool.name ++ names_text pool.groups ++ names_text pool.clients
    ++ names_text pool.sets ++ levels_text pool.levels
fields_text (resources.Client client) =
    short_text client.name ++ short_text client.browse ++ short_text client.retention
fields_text (resources.Schedule schedule) =
    short_text schedule.name ++ byte_text (period_byte schedule.period)
    ++ actions_text schedule.actions ++ overrides_text schedule.overrides
fields_text (resources.Group group) =
    short_text group.name ++ short_text group.schedule ++ members_text group.members

unfoldable pub policy_at : List ℕ → Part Resource
policy_at bytes = do
  name ← name_at 64 bytes
  count ← number_within_at 4 1 9999 name.1
  unit ← code_at unit_kinds count.1
  Ok (resources.Policy (record { name = name.0; count = count.0; unit = unit.0 }), unit.1)

unfoldable pub pool_at : List ℕ → Part Resource
pool_at bytes = do
  name ← name_at 64 bytes
  groups ← names_at 64 name.1
  clients ← names_at 64 groups.1
  sets ← names_at 255 clients.1
  levels ← levels_at sets.1
  Ok (
    resources.Pool (record {
      name = name.0;
      groups = groups.0;
      clients = clients.0;
      sets = sets.0;
      levels = levels.0;
    }),
    levels.1,
  )

unfoldable pub client_at : List ℕ → Part Resource
client_at bytes = do
  name ← name_at 64 bytes
  browse ← name_at 64 name.1
  retention ← name_at 64 browse.1
  Ok (
    resources.Client (record { name = name.0; browse = browse.0; retention = retention.0 }),
    retention.1,
  )

unfoldable pub schedule_at : List ℕ → Part Resource
schedule_at bytes = do
  name ← name_at 64 bytes
  period ← code_at period_kinds name.1
  actions ← actions_at period.1
  overrides ← overrides_at actions.1
  Ok (
    resources.Schedule (record {
      name = name.0;
      period = period.0;
      actions = actions.0;
      overrides = overrides.0;
    }),
    overrides.1,
  )

unfoldable pub group_at : List ℕ → Part Resource
group_at bytes = do
  name ← name_at 64 bytes
  schedule ← name_at 64 name.1
  members ← members_at schedule.1
  Ok (
    resources.Group (record { name = name.0; schedule = schedule.0; members = members.0 }),
    members.1,
  )

-- ---- resources

abbrev pub resource_text : Resource → List ℕ
resource_text resource = byte_text (resource_byte (kind_of resource)) ++ fields_text resource

abbrev pub resource_readers : Readers Resource
resource_readers =
    (0x50, policy_at) ∷ (0x4F, pool_at) ∷ (0x43, client_at) ∷ (0x53, schedule_at)
    ∷ (0x47, group_at) ∷ []

abbrev pub resource_at : List ℕ → Part Resource
resource_at bytes = by_kind_at resource_readers bytes

-- the levels and actions of a resource are in their ranges
abbrev pub FitsResource : Resource → Type 0
FitsResource (resources.Policy policy) = Unit {0}
FitsResource (resources.Pool pool) = AllByRecursion (λ level. level ≤ 10) pool.levels
FitsResource (resources.Client client) = Unit {0}
FitsResource (resources.Schedule schedule) =
    AllByRecursion (λ action. action ≤ 11) schedule.actions
    × AllByRecursion (λ one. one.action ≤ 11) schedule.overrides
FitsResource (resources.Group group) = Unit {0}
