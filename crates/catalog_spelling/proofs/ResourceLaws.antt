-- Resources: what is read is spelled so and allowed, and what is allowed is read.
use Rattle.std.proofs.Common.{◌≡◌, ℕ, ◌≤◌, ◌<◌, true, nat_le, List, [], ◌∷◌, ◌++◌, length, Some, Ok, refl, arith}
use Rattle.std.specs.Prelude.{IfSome}
use Rattle.std.specs.List.{AllByRecursion}
use Rattle.std.specs.Ordering.{nat_cmp}
use Rattle.std.specs.declared.cmp.Ordering.TheVariants.{Less}
use Rattle.std.proofs.lemmas.Bool.{leb-true, le-leb}
use Rattle.room_base.specs.Ordered.{Ascends}
use Rattle.room_rules.specs.declared.group.Group.{Group}
use Rattle.room_rules.specs.declared.policy.Policy.{Policy}
use Rattle.room_rules.specs.declared.policy.Unit.TheVariants as units
use Rattle.room_rules.specs.declared.policy.Unit as unit
use Rattle.room_rules.specs.declared.pool.Pool.{Pool}
use Rattle.room_rules.specs.declared.schedule.Override.{Override}
use Rattle.room_rules.specs.declared.schedule.Period.{Period}
use Rattle.room_rules.specs.declared.schedule.Period.TheVariants as periods
use Rattle.room_rules.specs.declared.schedule.Schedule.{Schedule}
use Rattle.save_stream.specs.Spelling.{IsNameTo, short_text}
use Rattle.save_stream.specs.Standing.{AreBytes}
use Rattle.save_stream.proofs.Again.{both}
use Rattle.save_stream.proofs.Sound.{both-true}
use Rattle.catalog_change.specs.declared.resource.Client.{Client}
use Rattle.catalog_change.specs.declared.resource.Resource.{Resource}
use Rattle.catalog_change.specs.declared.resource.Resource.TheVariants as resources
use Rattle.catalog_change.specs.declared.resource.ResourceKind.{ResourceKind}
use Rattle.catalog_change.specs.declared.resource.ResourceKind.TheVariants as kinds
use Rattle.catalog_change.specs.Resources.{kind_of, max_day, day_of, IsListTo, IsOverride, IsMember, IsPolicy, IsPool, IsClient, IsSchedule, IsGroup, IsResource}
use Rattle.catalog_spelling.specs.Spelled.{Took, Judged, Reads}
use Rattle.catalog_spelling.specs.Fields.{byte_text, coded, code_at}
use Rattle.catalog_spelling.specs.Lists.{last_item}
use Rattle.catalog_spelling.specs.Kinds.{chosen}
use Rattle.catalog_spelling.specs.Resources.{resource_kinds, resource_byte, unit_kinds, unit_byte, period_kinds, period_byte, level_at, action_at, names_at, names_text, levels_at, levels_text, actions_at, actions_text, is_next_day, override_text, override_at, overrides_at, overrides_text, member_text, member_at, members_at, members_text, fields_text, policy_at, pool_at, client_at, schedule_at, group_at, resource_text, resource_readers, resource_at, FitsResource}
use Rattle.catalog_spelling.proofs.Steps.{start, begin, took, after, then-found, checked-reads, reads-as}
use Rattle.catalog_spelling.proofs.Fields.{u16-within, u32-within, u32-reads, byte-within, number-empty, name-reads, code-reads}
use Rattle.catalog_spelling.proofs.Lists.{list-reads}
use Rattle.catalog_spelling.proofs.Behind.{each-is, each-behind, Rises, rising-is, rising-behind, above-is, above-again}
use Rattle.catalog_spelling.proofs.KindLaws.{by_kind-reads}

-- ---- bytes that stand for something

resource_kind-again : (kind : ResourceKind) → coded resource_kinds (resource_byte kind) ≡ Some kind
resource_kind-again kinds.Policy = refl
resource_kind-again kinds.Pool = refl
resource_kind-again kinds.Client = refl
resource_kind-again kinds.Schedule = refl
resource_kind-again kinds.Group = refl

pub resource_kind-reads : Reads (code_at resource_kinds) (λ kind. byte_text (resource_byte kind)) (λ kind. Unit {0})
resource_kind-reads =
    code-reads resource_kinds resource_byte (λ kind. Unit {0}) ((refl, tt), ((refl, tt), ((refl, tt), ((refl, tt), ((refl, tt), tt))))) (λ kind is. resource_kind-again kind)

unit-again : (one : unit.Unit) → coded unit_kinds (unit_byte one) ≡ Some one
unit-again units.Days = refl
unit-again units.Weeks = refl
unit-again units.Months = refl
unit-again units.Years = refl

unit-reads : Reads (code_at unit_kinds) (λ one. byte_text (unit_byte one)) (λ one. Unit {0})
unit-reads = code-reads unit_kinds unit_byte (λ one. Unit {0}) ((refl, tt), ((refl, tt), ((refl, tt), ((refl, tt), tt)))) (λ one is. unit-again one)

period-again : (period : Period) → coded period_kinds (period_byte period) ≡ Some period
period-again periods.Week = refl
period-again periods.Month = refl

period-reads : Reads (code_at period_kinds) (λ period. byte_text (period_byte period)) (λ period. Unit {0})
period-reads = code-reads period_kinds period_byte (λ period. Unit {0}) ((refl, tt), ((refl, tt), tt)) (λ period is. period-again period)

pub level-reads : Reads level_at byte_text (λ level. level ≤ 10)
level-reads = reads-as (byte-within 0 10 (omega arith)) (λ level. level ≤ 10) (λ level is. is.1) (λ level is. (omega arith, is))

action-reads : Reads action_at byte_text (λ action. action ≤ 11)
action-reads = reads-as (byte-within 0 11 (omega arith)) (λ action. action ≤ 11) (λ action is. is.1) (λ action is. (omega arith, is))

-- ---- lists

names-read : (most : ℕ) → most < 256 → Reads (names_at most) names_text (IsListTo 64 (IsNameTo most))
names-read most fits =
    reads-as (list-reads (u16-within 0 64 (omega arith)) _ short_text (λ before. IsNameTo most) (λ before. name-reads most fits)) (IsListTo 64 (IsNameTo most))
    (λ names is. record { count = is.0.1; each = each-is (IsNameTo most) [] names is.1 })
    (λ names is. ((omega arith, is.count), each-behind (IsNameTo most) [] names is.each))

-- so many levels
abbrev AreLevels : List ℕ → Type 0
AreLevels levels = (length levels ≤ 64) × AllByRecursion (λ level. level ≤ 10) levels

levels-read : Reads levels_at levels_text AreLevels
levels-read =
    reads-as (list-reads (u16-within 0 64 (omega arith)) _ byte_text (λ before level. level ≤ 10) (λ before. level-reads)) AreLevels
    (λ levels is. (is.0.1, each-is (λ level. level ≤ 10) [] levels is.1))
    (λ levels is. ((omega arith, is.0), each-behind (λ level. level ≤ 10) [] levels is.1))

abbrev AreActions : List ℕ → Type 0
AreActions actions = ((1 ≤ length actions) × (length actions ≤ 31)) × AllByRecursion (λ action. action ≤ 11) actions

actions-read : Reads actions_at actions_text AreActions
actions-read =
    reads-as (list-reads (byte-within 1 31 (omega arith)) _ byte_text (λ before action. action ≤ 11) (λ before. action-reads)) AreActions
    (λ actions is. (is.0, each-is (λ action. action ≤ 11) [] actions is.1))
    (λ actions is. (is.0, each-behind (λ action. action ≤ 11) [] actions is.1))

-- an override whose action is in its range
abbrev IsFitting : Override → Type 0
IsFitting one = IsOverride one × (one.action ≤ 11)

-- such an override, of a later day than the last one
abbrev IsNext : List Override → Override → Type 0
IsNext before one = Rises nat_cmp day_of IsFitting before one

-- a day that is later than the last one
abbrev IsNextDay : List Override → ℕ → Type 0
IsNextDay before day = (day ≤ max_day) × IfSome (last_item before) (λ last. nat_cmp (day_of last) day ≡ Less)

next_day-is : (before : List Override) (day : ℕ) → is_next_day before day ≡ true → IsNextDay before day
next_day-is before day is =
    let parts = both-true (nat_le day max_day) _ is in
    (leb-true day max_day parts.0, above-is day_of (last_item before) day parts.1)

next_day-again : (before : List Override) (day : ℕ) → IsNextDay before day → is_next_day before day ≡ true
next_day-again before day is = both _ _ (le-leb day max_day is.0) (above-again day_of (last_item before) day is.1)

override-reads : (before : List Override) → Reads (override_at before) override_text (IsNext before)
unfolding override_at
override-reads before =
    let day-reads = reads-as (checked-reads u32-reads (is_next_day before) (number-empty 4 (omega arith))) (IsNextDay before) (λ day is. next_day-is before day is.1) (λ day is. (omega (arith, is.0), next_day-again before day is)) in
    record {
      found = λ bytes are.
          then-found day-reads _ _ (begin (override_at before) bytes are) (λ day rest day-is goes.
          then-found action-reads _ _ goes (λ action rest action-is goes. (took _ goes, ((day-is.0, action-is), day-is.1))));
      again = λ one rest is.
          (after action-reads _ one.action is.0.1
          (after day-reads _ one.day (is.0.0, is.1) (start (override_at before)))).goes rest;
    }

abbrev AreOverrides : List Override → Type 0
AreOverrides overrides = IsListTo 64 IsOverride overrides × Ascends nat_cmp day_of overrides × AllByRecursion (λ one. one.action ≤ 11) overrides

overrides-apart : (overrides : List Override) → AllByRecursion IsFitting overrides → AllByRecursion IsOverride overrides × AllByRecursion (λ one. one.action ≤ 11) overrides
overrides-apart [] each = (tt, tt)
overrides-apart (one ∷ overrides) each = let more = overrides-apart overrides each.1 in ((each.0.0, more.0), (each.0.1, more.1))

overrides-both : (overrides : List Override) → AllByRecursion IsOverride overrides → AllByRecursion (λ one. one.action ≤ 11) overrides → AllByRecursion IsFitting overrides
overrides-both [] is fits = tt
overrides-both (one ∷ overrides) is fits = ((is.0, fits.0), overrides-both overrides is.1 fits.1)

overrides-read : Reads overrides_at overrides_text AreOverrides
overrides-read =
    reads-as (list-reads (byte-within 0 64 (omega arith)) override_at override_text IsNext override-reads) AreOverrides
    (λ overrides is.
    let parts = rising-is nat_cmp day_of IsFitting overrides is.1 in
    let each = overrides-apart overrides parts.0 in
    (record { count = is.0.1; each = each.0 }, parts.1, each.1))
    (λ overrides is. ((omega arith, is.0.count), rising-behind nat_cmp day_of IsFitting overrides (overrides-both overrides is.0.each is.2) is.1))

member-reads : Reads member_at member_text IsMember
unfolding member_at
member-reads = record {
  found = λ bytes are.
      then-found (name-reads 64 (omega arith)) _ _ (begin member_at bytes are) (λ client rest client-is goes.
      then-found (name-reads 255 (omega arith)) _ _ goes (λ set rest set-is goes. (took _ goes, record { client = client-is; set = set-is })));
  again = λ member rest is.
      (after (name-reads 255 (omega arith)) _ member.set is.set
      (after (name-reads 64 (omega arith)) _ member.client is.client (start member_at))).goes rest;
}

members-read : Reads members_at members_text (IsListTo 256 IsMember)
members-read =
    reads-as (list-reads (u16-within 0 256 (omega arith)) _ member_text (λ before. IsMember) (λ before. member-reads)) (IsListTo 256 IsMember)
    (λ members is. record { count = is.0.1; each = each-is IsMember [] members is.1 })
    (λ members is. ((omega arith, is.count), each-behind IsMember [] members is.each))

-- ---- the fields of each kind

-- a resource that is allowed, of a kind
abbrev pub IsFittingResource : Resource → Type 0
IsFittingResource resource = IsResource resource × FitsResource resource

abbrev byte_of : Resource → ℕ
byte_of resource = resource_byte (kind_of resource)

-- what is read as the fields of this kind
abbrev FoundAs : ℕ → List ℕ → Resource → List ℕ → Type 0
FoundAs kind bytes resource rest = Took bytes (fields_text resource) rest × (IsFittingResource resource × (byte_of resource ≡ kind))

policy-found : (bytes : List ℕ) → AreBytes bytes → Judged policy_at bytes (policy_at bytes) (FoundAs 0x50 bytes)
unfolding policy_at
policy-found bytes are =
    then-found (name-reads 64 (omega arith)) _ _ (begin policy_at bytes are) (λ name rest name-is goes.
    then-found (u32-within 1 9999 (omega arith)) _ _ goes (λ count rest count-is goes.
    then-found unit-reads _ _ goes (λ unit rest unit-is goes. (took _ goes, ((record { name = name-is; count = count-is }, tt), refl)))))

policy-again : (policy : Policy) (rest : List ℕ) → IsPolicy policy → policy_at (fields_text (resources.Policy policy) ++ rest) ≡ Ok (resources.Policy policy, rest)
unfolding policy_at
policy-again policy rest is =
    (after unit-reads _ policy.unit tt
    (after (u32-within 1 9999 (omega arith)) _ policy.count is.count
    (after (name-reads 64 (omega arith)) _ policy.name is.name (start policy_at)))).goes rest

pool-found : (bytes : List ℕ) → AreBytes bytes → Judged pool_at bytes (pool_at bytes) (FoundAs 0x4F bytes)
unfolding pool_at
pool-found bytes are =
    then-found (name-reads 64 (omega arith)) _ _ (begin pool_at bytes are) (λ name rest name-is goes.
    then-found (names-read 64 (omega arith)) _ _ goes (λ groups rest groups-are goes.
    then-found (names-read 64 (omega arith)) _ _ goes (λ clients rest clients-are goes.
    then-found (names-read 255 (omega arith)) _ _ goes (λ sets rest sets-are goes.
    then-found levels-read _ _ goes (λ levels rest levels-are goes. (
      took _ goes,
      ((record { name = name-is; groups = groups-are; clients = clients-are; sets = sets-are; levels = levels-are.0 }, levels-are.1), refl),
    ))))))

pool-again : (pool : Pool) (rest : List ℕ) → IsPool pool → AllByRecursion (λ level. level ≤ 10) pool.levels → pool_at (fields_text (resources.Pool pool) ++ rest) ≡ Ok (resources.Pool pool, rest)
unfolding pool_at
pool-again pool rest is fits =
    (after levels-read _ pool.levels (is.levels, fits)
    (after (names-read 255 (omega arith)) _ pool.sets is.sets
    (after (names-read 64 (omega arith)) _ pool.clients is.clients
    (after (names-read 64 (omega arith)) _ pool.groups is.groups
    (after (name-reads 64 (omega arith)) _ pool.name is.name (start pool_at)))))).goes rest

client-found : (bytes : List ℕ) → AreBytes bytes → Judged client_at bytes (client_at bytes) (FoundAs 0x43 bytes)
unfolding client_at
client-found bytes are =
    then-found (name-reads 64 (omega arith)) _ _ (begin client_at bytes are) (λ name rest name-is goes.
    then-found (name-reads 64 (omega arith)) _ _ goes (λ browse rest browse-is goes.
    then-found (name-reads 64 (omega arith)) _ _ goes (λ retention rest retention-is goes. (
      took _ goes,
      ((record { name = name-is; browse = browse-is; retention = retention-is }, tt), refl),
    ))))

client-again : (client : Client) (rest : List ℕ) → IsClient client → client_at (fields_text (resources.Client client) ++ rest) ≡ Ok (resources.Client client, rest)
unfolding client_at
client-again client rest is =
    (after (name-reads 64 (omega arith)) _ client.retention is.retention
    (after (name-reads 64 (omega arith)) _ client.browse is.browse
    (after (name-reads 64 (omega arith)) _ client.name is.name (start client_at)))).goes rest

schedule-found : (bytes : List ℕ) → AreBytes bytes → Judged schedule_at bytes (schedule_at bytes) (FoundAs 0x53 bytes)
unfolding schedule_at
schedule-found bytes are =
    then-found (name-reads 64 (omega arith)) _ _ (begin schedule_at bytes are) (λ name rest name-is goes.
    then-found period-reads _ _ goes (λ period rest period-is goes.
    then-found actions-read _ _ goes (λ actions rest actions-are goes.
    then-found overrides-read _ _ goes (λ overrides rest overrides-are goes. (
      took _ goes,
      (
        (record { name = name-is; actions = actions-are.0; overrides = overrides-are.0; order = overrides-are.1 }, (actions-are.1, overrides-are.2)),
        refl,
      ),
    )))))

schedule-again : (schedule : Schedule) (rest : List ℕ) → IsSchedule schedule → FitsResource (resources.Schedule schedule)
    → schedule_at (fields_text (resources.Schedule schedule) ++ rest) ≡ Ok (resources.Schedule schedule, rest)
unfolding schedule_at
schedule-again schedule rest is fits =
    (after overrides-read _ schedule.overrides (is.overrides, is.order, fits.1)
    (after actions-read _ schedule.actions (is.actions, fits.0)
    (after period-reads _ schedule.period tt
    (after (name-reads 64 (omega arith)) _ schedule.name is.name (start schedule_at))))).goes rest

group-found : (bytes : List ℕ) → AreBytes bytes → Judged group_at bytes (group_at bytes) (FoundAs 0x47 bytes)
unfolding group_at
group-found bytes are =
    then-found (name-reads 64 (omega arith)) _ _ (begin group_at bytes are) (λ name rest name-is goes.
    then-found (name-reads 64 (omega arith)) _ _ goes (λ schedule rest schedule-is goes.
    then-found members-read _ _ goes (λ members rest members-are goes. (
      took _ goes,
      ((record { name = name-is; schedule = schedule-is; members = members-are }, tt), refl),
    ))))

group-again : (group : Group) (rest : List ℕ) → IsGroup group → group_at (fields_text (resources.Group group) ++ rest) ≡ Ok (resources.Group group, rest)
unfolding group_at
group-again group rest is =
    (after members-read _ group.members is.members
    (after (name-reads 64 (omega arith)) _ group.schedule is.schedule
    (after (name-reads 64 (omega arith)) _ group.name is.name (start group_at)))).goes rest

-- ---- resources

resource-again : (resource : Resource) (behind : ℕ) (rest : List ℕ) → IsFittingResource resource → chosen resource_readers (byte_of resource) behind (fields_text resource ++ rest) ≡ Ok (resource, rest)
resource-again (resources.Policy policy) behind rest is = policy-again policy rest is.0
resource-again (resources.Pool pool) behind rest is = pool-again pool rest is.0 is.1
resource-again (resources.Client client) behind rest is = client-again client rest is.0
resource-again (resources.Schedule schedule) behind rest is = schedule-again schedule rest is.0 is.1
resource-again (resources.Group group) behind rest is = group-again group rest is.0

pub resource-reads : Reads resource_at resource_text IsFittingResource
resource-reads =
    by_kind-reads resource_readers byte_of fields_text IsFittingResource
    (policy-found, (pool-found, (client-found, (schedule-found, (group-found, tt)))))
    resource-again
