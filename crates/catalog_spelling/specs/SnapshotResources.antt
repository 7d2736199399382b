-- The resources of a catalogue as bytes: all kinds in one list.
use Rattle.std.specs.Prelude.{ℕ, zero, suc, ◌+◌, Bool, true, ◌&&◌, ◌==◌, List, [], ◌∷◌}
use Rattle.std.specs.Prelude.{◌++◌, length, codes, Ok, if◌then◌else◌}
use Rattle.std.specs.List.{flat_map}
use Rattle.room_rules.specs.declared.group.Group.{Group}
use Rattle.room_rules.specs.declared.group.Member.{Member}
use Rattle.room_rules.specs.declared.policy.Policy.{Policy}
use Rattle.room_rules.specs.declared.pool.Pool.{Pool}
use Rattle.room_rules.specs.declared.schedule.Schedule.{Schedule}
use Rattle.catalog_change.specs.declared.resource.Client.{Client}
use Rattle.catalog_change.specs.declared.resource.Resource.TheVariants as resources
use Rattle.catalog_change.specs.Resources.{
  client_name,
  group_name,
  policy_name,
  pool_name,
  schedule_name,
}
use Rattle.catalog_spelling.specs.Reading.{Part, ◌>>=◌, checked}
use Rattle.catalog_spelling.specs.Fields.{byte_at, number_bytes, number_within_at, code_at, name_at}
use Rattle.catalog_spelling.specs.Lists.{list_at}
use Rattle.catalog_spelling.specs.Kinds.{Readers, chosen}
use Rattle.catalog_spelling.specs.Resources.{
  unit_kinds,
  period_kinds,
  names_at,
  levels_at,
  actions_at,
  overrides_at,
  resource_text,
}
use Rattle.catalog_spelling.specs.Changes.{max_count}
use Rattle.catalog_spelling.specs.declared.snapshot_fields.ResourceLists.{ResourceLists}
use Rattle.catalog_spelling.specs.Names.{is_there, is_next_name, name_if_at}

-- ---- the list

abbrev pub no_resources : ResourceLists
no_resources = record { policies = []; pools = []; clients = []; schedules = []; groups = [] }

abbrev pub count_of : ResourceLists → ℕ
count_of lists =
    length lists.policies + length lists.pools + length lists.clients + length lists.schedules
    + length lists.groups

-- their count, and all of them in the order of the kinds
abbrev pub lists_text : ResourceLists → List ℕ
lists_text lists =
    number_bytes 4 (count_of lists)
    ++ flat_map (λ policy. resource_text (resources.Policy policy)) lists.policies
    ++ flat_map (λ pool. resource_text (resources.Pool pool)) lists.pools
    ++ flat_map (λ client. resource_text (resources.Client client)) lists.clients
    ++ flat_map (λ schedule. resource_text (resources.Schedule schedule)) lists.schedules
    ++ flat_map (λ group. resource_text (resources.Group group)) lists.groups

-- ---- the fields of each kind, behind those of this kind that were read

unfoldable pub policy_at : List Policy → List ℕ → Part Policy
policy_at before bytes = do
  name ← name_if_at (is_next_name policy_name before) bytes
  count ← number_within_at 4 1 9999 name.1
  unit ← code_at unit_kinds count.1
  Ok (record { name = name.0; count = count.0; unit = unit.0 }, unit.1)

unfoldable pub pool_at : List Pool → List ℕ → Part Pool
pool_at before bytes = do
  name ← name_if_at (is_next_name pool_name before) bytes
  groups ← names_at 64 name.1
  clients ← names_at 64 groups.1
  sets ← names_at 255 clients.1
  levels ← levels_at sets.1
  Ok (
    record {
      name = name.0;
      groups = groups.0;
      clients = clients.0;
      sets = sets.0;
      levels = levels.0;
    },
    levels.1,
  )

-- its policies are there
unfoldable pub client_at : List Policy → List Client → List ℕ → Part Client
client_at policies before bytes = do
  name ← name_if_at (is_next_name client_name before) bytes
  browse ← name_if_at (is_there policy_name policies) name.1
  retention ← name_if_at (is_there policy_name policies) browse.1
  Ok (record { name = name.0; browse = browse.0; retention = retention.0 }, retention.1)

unfoldable pub schedule_at : List Schedule → List ℕ → Part Schedule
schedule_at before bytes = do
  name ← name_if_at (is_next_name schedule_name before) bytes
  period ← code_at period_kinds name.1
  actions ← actions_at period.1
  overrides ← overrides_at actions.1
  Ok (
    record {
      name = name.0;
      period = period.0;
      actions = actions.0;
      overrides = overrides.0;
    },
    overrides.1,
  )

-- a member whose client is there
unfoldable pub member_at : List Client → List ℕ → Part Member
member_at clients bytes = do
  client ← name_if_at (is_there client_name clients) bytes
  set ← name_at 255 client.1
  Ok (record { client = client.0; set = set.0 }, set.1)

abbrev pub members_at : List Client → List ℕ → Part (List Member)
members_at clients bytes = list_at (number_within_at 2 0 256) (λ before. member_at clients) bytes

-- its schedule is there, and the clients of its members are
unfoldable pub group_at : List Schedule → List Client → List Group → List ℕ → Part Group
group_at schedules clients before bytes = do
  name ← name_if_at (is_next_name group_name before) bytes
  schedule ← name_if_at (is_there schedule_name schedules) name.1
  members ← members_at clients schedule.1
  Ok (record { name = name.0; schedule = schedule.0; members = members.0 }, members.1)

-- ---- one more resource

unfoldable pub with_policy_at : ResourceLists → List ℕ → Part ResourceLists
with_policy_at lists bytes = do
  policy ← policy_at lists.policies bytes
  Ok (record lists { policies = lists.policies ++ policy.0 ∷ [] }, policy.1)

unfoldable pub with_pool_at : ResourceLists → List ℕ → Part ResourceLists
with_pool_at lists bytes = do
  pool ← pool_at lists.pools bytes
  Ok (record lists { pools = lists.pools ++ pool.0 ∷ [] }, pool.1)

unfoldable pub with_client_at : ResourceLists → List ℕ → Part ResourceLists
with_client_at lists bytes = do
  client ← client_at lists.policies lists.clients bytes
  Ok (record lists { clients = lists.clients ++ client.0 ∷ [] }, client.1)

unfoldable pub with_schedule_at : ResourceLists → List ℕ → Part ResourceLists
with_schedule_at lists bytes = do
  schedule ← schedule_at lists.schedules bytes
  Ok (record lists { schedules = lists.schedules ++ schedule.0 ∷ [] }, schedule.1)

unfoldable pub with_group_at : ResourceLists → List ℕ → Part ResourceLists
with_group_at lists bytes = do
  group ← group_at lists.schedules lists.clients lists.groups bytes
  Ok (record lists { groups = lists.groups ++ group.0 ∷ [] }, group.1)

abbrev pub lists_readers : ResourceLists → Readers ResourceLists
lists_readers lists =
    (0x50, with_policy_at lists) ∷ (0x4F, with_pool_at lists) ∷ (0x43, with_client_at lists)
    ∷ (0x53, with_schedule_at lists) ∷ (0x47, with_group_at lists) ∷ []

abbrev pub is_none : {X : Type 0} → List X → Bool
is_none items = length items == 0

-- none of these has a kind that comes behind that of the byte
abbrev pub can_follow : ResourceLists → ℕ → Bool
can_follow lists byte =
    if byte == 0x50
    then is_none lists.pools && is_none lists.clients && is_none lists.schedules
    && is_none lists.groups
    else if byte == 0x4F
    then is_none lists.clients && is_none lists.schedules && is_none lists.groups
    else if byte == 0x43 then is_none lists.schedules && is_none lists.groups
    else if byte == 0x53 then is_none lists.groups
    else true

unfoldable pub next_at : ResourceLists → List ℕ → Part ResourceLists
next_at lists bytes = checked (can_follow lists) bytes (byte_at bytes)
    >>= λ kind. chosen (lists_readers lists) kind.0 (length bytes) kind.1

-- so many more resources
unfoldable pub more_at : ℕ → ResourceLists → List ℕ → Part ResourceLists
more_at zero lists bytes = Ok (lists, bytes)
more_at (suc count) lists bytes = do
  more ← next_at lists bytes
  more_at count more.0 more.1

unfoldable pub lists_at : List ℕ → Part ResourceLists
lists_at bytes = do
  count ← number_within_at 4 0 max_count bytes
  more_at count.0 no_resources count.1

-- pool `Default` and client `room` are there
abbrev pub has_lasting : ResourceLists → Bool
has_lasting lists =
    is_there pool_name lists.pools (codes "Default")
    && is_there client_name lists.clients (codes "room")
