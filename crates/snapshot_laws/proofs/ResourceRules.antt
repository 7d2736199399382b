-- The resources that reading allows are those that a catalogue may have.
use Rattle.std.proofs.Common.{◌≡◌, ℕ, true, List, [], arith}
use Rattle.std.specs.Prelude.{codes}
use Rattle.std.specs.List.{AllByRecursion}
use Rattle.std.specs.Ordering.{nat_cmp}
use Rattle.std.specs.Cmp.Lexicographic.{slice_cmp}
use Rattle.room_rules.specs.declared.group.Group.{Group}
use Rattle.room_rules.specs.declared.policy.Policy.{Policy}
use Rattle.room_rules.specs.declared.schedule.Schedule.{Schedule}
use Rattle.save_stream.proofs.Again.{both}
use Rattle.save_stream.proofs.Sound.{both-true}
use Rattle.catalog_change.specs.Catalogues.{AreNamed, Catalogue, HasClient, HasPolicies, HasResources, HasSchedule}
use Rattle.catalog_change.specs.declared.resource.Client.{Client}
use Rattle.catalog_change.specs.Resources.{IsClient, IsGroup, IsMember, IsPolicy, IsPool, IsSchedule, client_name, group_name, policy_name, pool_name, schedule_name}
use Rattle.catalog_spelling.specs.Lists.{AllBehind, last_item}
use Rattle.catalog_spelling.proofs.Behind.{Rises, rising-is, rising-behind}
use Rattle.catalog_spelling.specs.Fits.{FitsPool, FitsSchedule}
use Rattle.catalog_spelling.specs.Names.{is_next_name, is_there}
use Rattle.catalog_spelling.specs.SnapshotResources.{has_lasting}
use Rattle.catalog_spelling.specs.Snapshots.{lists_of}
use Rattle.snapshot_laws.proofs.Each.{all-apart, all-both, behind-as}
use Rattle.snapshot_laws.proofs.ListLaws.{AreListsIf}
use Rattle.snapshot_laws.proofs.Ordered.{last-above, last-below}
use Rattle.snapshot_laws.proofs.ResourceLaws.{IsClientIf, IsGroupIf}

-- ---- in the order of their names

-- an item that is allowed by itself, whose name stands above the last one
abbrev IsNamed : {X : Type 0} → (X → List ℕ) → (X → Type 0) → List X → X → Type 0
IsNamed name Is before x = Is x × (is_next_name name before (name x) ≡ true)

named-is : {X : Type 0} (name : X → List ℕ) (Is : X → Type 0) (xs : List X) → AllBehind (IsNamed name Is) [] xs → AllByRecursion Is xs × AreNamed name Is xs
named-is name Is xs each =
    let parts = rising-is (slice_cmp nat_cmp) name Is xs (behind-as (IsNamed name Is) (Rises (slice_cmp nat_cmp) name Is) (λ before x is. (is.0, last-below name (last_item before) (name x) is.1)) [] xs each) in
    (parts.0, record { each = parts.0; order = parts.1 })

named-again : {X : Type 0} (name : X → List ℕ) (Is : X → Type 0) (xs : List X) → AreNamed name Is xs → AllBehind (IsNamed name Is) [] xs
named-again name Is xs are =
    behind-as (Rises (slice_cmp nat_cmp) name Is) (IsNamed name Is) (λ before x is. (is.0, last-above name (last_item before) (name x) is.1)) [] xs
    (rising-behind (slice_cmp nat_cmp) name Is xs are.each are.order)

-- items with a property more
both-named : {X : Type 0} (name : X → List ℕ) (Is Has : X → Type 0) (xs : List X) → AllBehind (IsNamed name (λ x. Is x × Has x)) [] xs → AreNamed name Is xs × AllByRecursion Has xs
both-named name Is Has xs each =
    let named = (named-is name (λ x. Is x × Has x) xs each).1 in
    let parts = all-apart Is Has xs named.each in
    (record { each = parts.0; order = named.order }, parts.1)

named-both : {X : Type 0} (name : X → List ℕ) (Is Has : X → Type 0) (xs : List X) → AreNamed name Is xs → AllByRecursion Has xs → AllBehind (IsNamed name (λ x. Is x × Has x)) [] xs
named-both name Is Has xs are has = named-again name (λ x. Is x × Has x) xs (record { each = all-both Is Has xs are.each has; order = are.order })

-- ---- clients and groups

client-is : (policies : List Policy) (before : List Client) (client : Client) → IsClientIf policies before client → IsNamed client_name (λ x. IsClient x × HasPolicies policies x) before client
client-is policies before client is = ((is.0, (is.2, is.3)), is.1)

client-again : (policies : List Policy) (before : List Client) (client : Client) → IsNamed client_name (λ x. IsClient x × HasPolicies policies x) before client → IsClientIf policies before client
client-again policies before client is = (is.0.0, is.1, is.0.1.0, is.0.1.1)

group-is : (schedules : List Schedule) (clients : List Client) (before : List Group) (group : Group) → IsGroupIf schedules clients before group
    → IsNamed group_name (λ x. IsGroup x × HasSchedule schedules clients x) before group
group-is schedules clients before group is =
    let members = all-apart IsMember (HasClient clients) group.members is.members.1 in (
      (record { name = is.name; schedule = is.schedule; members = record { count = is.members.0; each = members.0 } }, (is.scheduled, members.1)),
      is.next,
    )

group-again : (schedules : List Schedule) (clients : List Client) (before : List Group) (group : Group) → IsNamed group_name (λ x. IsGroup x × HasSchedule schedules clients x) before group
    → IsGroupIf schedules clients before group
group-again schedules clients before group is =
    record {
      name = is.0.0.name;
      next = is.1;
      schedule = is.0.0.schedule;
      scheduled = is.0.1.0;
      members = (is.0.0.members.count, all-both IsMember (HasClient clients) group.members is.0.0.members.each is.0.1.1);
    }

-- ---- all of them

-- the resources of a catalogue, with numbers in the ranges of their bytes
pub record AreAllowed (catalogue : Catalogue) : Type 0 where
  pub resources : HasResources catalogue
  pub pools : AllByRecursion FitsPool catalogue.pools
  pub schedules : AllByRecursion FitsSchedule catalogue.schedules

pub resources-allowed : (catalogue : Catalogue) → AreListsIf (lists_of catalogue) → has_lasting (lists_of catalogue) ≡ true → AreAllowed catalogue
resources-allowed catalogue are lasting =
    let kinds = are.0 in
    let pools = both-named pool_name IsPool FitsPool catalogue.pools kinds.pools in
    let schedules = both-named schedule_name IsSchedule FitsSchedule catalogue.schedules kinds.schedules in
    let clients = both-named client_name IsClient (HasPolicies catalogue.policies) catalogue.clients
    (behind-as (IsClientIf catalogue.policies) (IsNamed client_name (λ x. IsClient x × HasPolicies catalogue.policies x)) (client-is catalogue.policies) [] catalogue.clients kinds.clients) in
    let groups = both-named group_name IsGroup (HasSchedule catalogue.schedules catalogue.clients) catalogue.groups
    (
    behind-as (IsGroupIf catalogue.schedules catalogue.clients) (IsNamed group_name (λ x. IsGroup x × HasSchedule catalogue.schedules catalogue.clients x)) (group-is catalogue.schedules catalogue.clients) [] catalogue.groups
    kinds.groups
    ) in
    let there = both-true (is_there pool_name catalogue.pools (codes "Default")) (is_there client_name catalogue.clients (codes "room")) lasting in
    record {
      resources = record {
        policies = (named-is policy_name IsPolicy catalogue.policies kinds.policies).1;
        pools = pools.0;
        clients = clients.0;
        schedules = schedules.0;
        groups = groups.0;
        count = omega (arith, are.1);
        kept = clients.1;
        scheduled = groups.1;
        default = there.0;
        room = there.1;
      };
      pools = pools.1;
      schedules = schedules.1;
    }

pub resources-again : (catalogue : Catalogue) → AreAllowed catalogue → AreListsIf (lists_of catalogue) × (has_lasting (lists_of catalogue) ≡ true)
resources-again catalogue are =
    let has = are.resources in (
      (
        record {
          policies = named-again policy_name IsPolicy catalogue.policies has.policies;
          pools = named-both pool_name IsPool FitsPool catalogue.pools has.pools are.pools;
          clients = behind-as (IsNamed client_name (λ x. IsClient x × HasPolicies catalogue.policies x)) (IsClientIf catalogue.policies) (client-again catalogue.policies) [] catalogue.clients
              (named-both client_name IsClient (HasPolicies catalogue.policies) catalogue.clients has.clients has.kept);
          schedules = named-both schedule_name IsSchedule FitsSchedule catalogue.schedules has.schedules are.schedules;
          groups = behind-as (IsNamed group_name (λ x. IsGroup x × HasSchedule catalogue.schedules catalogue.clients x)) (IsGroupIf catalogue.schedules catalogue.clients) (group-again catalogue.schedules catalogue.clients) []
              catalogue.groups (named-both group_name IsGroup (HasSchedule catalogue.schedules catalogue.clients) catalogue.groups has.groups has.scheduled);
        },
        omega (arith, has.count),
      ),
      both _ _ has.default has.room,
    )
