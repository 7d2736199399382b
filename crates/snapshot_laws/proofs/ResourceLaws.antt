-- Resources that are judged beside those before them: what is read is spelled so and allowed, and
-- what is allowed is read.
use Rattle.std.proofs.Common.{◌≡◌, ◌≤◌, true, List, [], length, arith}
use Rattle.room_rules.specs.declared.group.Group.{Group}
use Rattle.room_rules.specs.declared.group.Member.{Member}
use Rattle.room_rules.specs.declared.policy.Policy.{Policy}
use Rattle.room_rules.specs.declared.pool.Pool.{Pool}
use Rattle.room_rules.specs.declared.schedule.Schedule.{Schedule}
use Rattle.std.specs.List.{AllByRecursion}
use Rattle.save_stream.specs.Spelling.{IsNameTo}
use Rattle.catalog_change.specs.declared.resource.Client.{Client}
use Rattle.catalog_change.specs.declared.resource.Resource.TheVariants as resources
use Rattle.catalog_change.specs.Resources.{IsMember, IsPolicy, IsPool, IsClient, IsSchedule, client_name, group_name, policy_name, pool_name, schedule_name}
use Rattle.catalog_spelling.specs.Spelled.{Reads}
use Rattle.catalog_spelling.specs.Resources.{fields_text, member_text, members_text, FitsResource}
use Rattle.catalog_spelling.proofs.Steps.{start, begin, took, after, then-found, reads-as}
use Rattle.catalog_spelling.proofs.Fields.{u16-within, u32-within, name-reads}
use Rattle.catalog_spelling.proofs.Lists.{list-reads}
use Rattle.catalog_spelling.proofs.Behind.{each-is, each-behind}
use Rattle.catalog_spelling.specs.Names.{is_next_name, is_there}
use Rattle.catalog_spelling.specs.SnapshotResources.{policy_at, pool_at, client_at, schedule_at, group_at, member_at, members_at}
use Rattle.snapshot_laws.proofs.NameLaws.{name_if-reads}
use Rattle.snapshot_laws.proofs.PartLaws.{unit-reads, period-reads, names-read, levels-read, actions-read, overrides-read}

abbrev pub IsPolicyIf : List Policy → Policy → Type 0
IsPolicyIf before policy = IsPolicy policy × (is_next_name policy_name before policy.name ≡ true)

pub policy-reads : (before : List Policy) → Reads (policy_at before) (λ policy. fields_text (resources.Policy policy)) (IsPolicyIf before)
unfolding policy_at
policy-reads before = record {
  found = λ bytes are.
      then-found (name_if-reads (is_next_name policy_name before)) _ _ (begin (policy_at before) bytes are) (λ name rest name-is goes.
      then-found (u32-within 1 9999 (omega arith)) _ _ goes (λ count rest count-is goes.
      then-found unit-reads _ _ goes (λ unit rest unit-is goes. (took _ goes, (record { name = name-is.0; count = count-is }, name-is.1)))));
  again = λ policy rest is.
      (after unit-reads _ policy.unit tt
      (after (u32-within 1 9999 (omega arith)) _ policy.count is.0.count
      (after (name_if-reads (is_next_name policy_name before)) _ policy.name (is.0.name, is.1) (start (policy_at before))))).goes rest;
}

abbrev pub IsPoolIf : List Pool → Pool → Type 0
IsPoolIf before pool = (IsPool pool × FitsResource (resources.Pool pool)) × (is_next_name pool_name before pool.name ≡ true)

pub pool-reads : (before : List Pool) → Reads (pool_at before) (λ pool. fields_text (resources.Pool pool)) (IsPoolIf before)
unfolding pool_at
pool-reads before = record {
  found = λ bytes are.
      then-found (name_if-reads (is_next_name pool_name before)) _ _ (begin (pool_at before) bytes are) (λ name rest name-is goes.
      then-found (names-read 64 (omega arith)) _ _ goes (λ groups rest groups-are goes.
      then-found (names-read 64 (omega arith)) _ _ goes (λ clients rest clients-are goes.
      then-found (names-read 255 (omega arith)) _ _ goes (λ sets rest sets-are goes.
      then-found levels-read _ _ goes (λ levels rest levels-are goes. (
        took _ goes,
        ((record { name = name-is.0; groups = groups-are; clients = clients-are; sets = sets-are; levels = levels-are.0 }, levels-are.1), name-is.1),
      ))))));
  again = λ pool rest is.
      (after levels-read _ pool.levels (is.0.0.levels, is.0.1)
      (after (names-read 255 (omega arith)) _ pool.sets is.0.0.sets
      (after (names-read 64 (omega arith)) _ pool.clients is.0.0.clients
      (after (names-read 64 (omega arith)) _ pool.groups is.0.0.groups
      (after (name_if-reads (is_next_name pool_name before)) _ pool.name (is.0.0.name, is.1) (start (pool_at before))))))).goes rest;
}

-- a client whose policies are there
abbrev pub IsClientIf : List Policy → List Client → Client → Type 0
IsClientIf policies before client =
    IsClient client × (is_next_name client_name before client.name ≡ true) × (is_there policy_name policies client.browse ≡ true) × (is_there policy_name policies client.retention ≡ true)

pub client-reads : (policies : List Policy) (before : List Client) → Reads (client_at policies before) (λ client. fields_text (resources.Client client)) (IsClientIf policies before)
unfolding client_at
client-reads policies before = record {
  found = λ bytes are.
      then-found (name_if-reads (is_next_name client_name before)) _ _ (begin (client_at policies before) bytes are) (λ name rest name-is goes.
      then-found (name_if-reads (is_there policy_name policies)) _ _ goes (λ browse rest browse-is goes.
      then-found (name_if-reads (is_there policy_name policies)) _ _ goes (λ retention rest retention-is goes. (
        took _ goes,
        (record { name = name-is.0; browse = browse-is.0; retention = retention-is.0 }, name-is.1, browse-is.1, retention-is.1),
      ))));
  again = λ client rest is.
      (after (name_if-reads (is_there policy_name policies)) _ client.retention (is.0.retention, is.3)
      (after (name_if-reads (is_there policy_name policies)) _ client.browse (is.0.browse, is.2)
      (after (name_if-reads (is_next_name client_name before)) _ client.name (is.0.name, is.1) (start (client_at policies before))))).goes rest;
}

abbrev pub IsScheduleIf : List Schedule → Schedule → Type 0
IsScheduleIf before schedule = (IsSchedule schedule × FitsResource (resources.Schedule schedule)) × (is_next_name schedule_name before schedule.name ≡ true)

pub schedule-reads : (before : List Schedule) → Reads (schedule_at before) (λ schedule. fields_text (resources.Schedule schedule)) (IsScheduleIf before)
unfolding schedule_at
schedule-reads before = record {
  found = λ bytes are.
      then-found (name_if-reads (is_next_name schedule_name before)) _ _ (begin (schedule_at before) bytes are) (λ name rest name-is goes.
      then-found period-reads _ _ goes (λ period rest period-is goes.
      then-found actions-read _ _ goes (λ actions rest actions-are goes.
      then-found overrides-read _ _ goes (λ overrides rest overrides-are goes. (
        took _ goes,
        (
          (record { name = name-is.0; actions = actions-are.0; overrides = overrides-are.0; order = overrides-are.1 }, (actions-are.1, overrides-are.2)),
          name-is.1,
        ),
      )))));
  again = λ schedule rest is.
      (after overrides-read _ schedule.overrides (is.0.0.overrides, is.0.0.order, is.0.1.1)
      (after actions-read _ schedule.actions (is.0.0.actions, is.0.1.0)
      (after period-reads _ schedule.period tt
      (after (name_if-reads (is_next_name schedule_name before)) _ schedule.name (is.0.0.name, is.1) (start (schedule_at before)))))).goes rest;
}

-- a member whose client is there
abbrev pub IsMemberIf : List Client → Member → Type 0
IsMemberIf clients member = IsMember member × (is_there client_name clients member.client ≡ true)

member-reads : (clients : List Client) → Reads (member_at clients) member_text (IsMemberIf clients)
unfolding member_at
member-reads clients = record {
  found = λ bytes are.
      then-found (name_if-reads (is_there client_name clients)) _ _ (begin (member_at clients) bytes are) (λ client rest client-is goes.
      then-found (name-reads 255 (omega arith)) _ _ goes (λ set rest set-is goes. (took _ goes, (record { client = client-is.0; set = set-is }, client-is.1))));
  again = λ member rest is.
      (after (name-reads 255 (omega arith)) _ member.set is.0.set
      (after (name_if-reads (is_there client_name clients)) _ member.client (is.0.client, is.1) (start (member_at clients)))).goes rest;
}

-- so many members
abbrev pub AreMembersIf : List Client → List Member → Type 0
AreMembersIf clients members = (length members ≤ 256) × AllByRecursion (IsMemberIf clients) members

members-read : (clients : List Client) → Reads (members_at clients) members_text (AreMembersIf clients)
members-read clients =
    reads-as (list-reads (u16-within 0 256 (omega arith)) (λ before. member_at clients) member_text (λ before. IsMemberIf clients) (λ before. member-reads clients)) (AreMembersIf clients)
    (λ members is. (is.0.1, each-is (IsMemberIf clients) [] members is.1))
    (λ members is. ((omega arith, is.0), each-behind (IsMemberIf clients) [] members is.1))

-- a group whose schedule is there, as are the clients of its members
pub record IsGroupIf (schedules : List Schedule) (clients : List Client) (before : List Group) (group : Group) : Type 0 where
  pub name : IsNameTo 64 group.name
  pub next : is_next_name group_name before group.name ≡ true
  pub schedule : IsNameTo 64 group.schedule
  pub scheduled : is_there schedule_name schedules group.schedule ≡ true
  pub members : AreMembersIf clients group.members

pub group-reads : (schedules : List Schedule) (clients : List Client) (before : List Group)
    → Reads (group_at schedules clients before) (λ group. fields_text (resources.Group group)) (IsGroupIf schedules clients before)
unfolding group_at
group-reads schedules clients before = record {
  found = λ bytes are.
      then-found (name_if-reads (is_next_name group_name before)) _ _ (begin (group_at schedules clients before) bytes are) (λ name rest name-is goes.
      then-found (name_if-reads (is_there schedule_name schedules)) _ _ goes (λ schedule rest schedule-is goes.
      then-found (members-read clients) _ _ goes (λ members rest members-are goes. (
        took _ goes,
        record { name = name-is.0; next = name-is.1; schedule = schedule-is.0; scheduled = schedule-is.1; members = members-are },
      ))));
  again = λ group rest is.
      (after (members-read clients) _ group.members is.members
      (after (name_if-reads (is_there schedule_name schedules)) _ group.schedule (is.schedule, is.scheduled)
      (after (name_if-reads (is_next_name group_name before)) _ group.name (is.name, is.next) (start (group_at schedules clients before))))).goes rest;
}
