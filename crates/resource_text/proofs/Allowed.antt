-- What a text gives is allowed.
use Rattle.std.proofs.Common.{◌≡◌, ℕ, ◌≤◌, List, length, codes, Ok, Err, refl, sym, ap, subst, inl, inr, arith, true}
use Rattle.std.specs.List.{AllByRecursion}
use Rattle.std.specs.Cmp.Lexicographic.{slice_cmp}
use Rattle.std.specs.Ordering.{nat_cmp, is_lt}
use Rattle.std.specs.declared.cmp.Ordering.{Ordering}
use Rattle.std.specs.declared.cmp.Ordering.TheVariants.{Less, Equal, Greater}
use Rattle.toml.specs.Data.{Data, Items, no_items, item, Members, no_members, member, is_before}
use Rattle.room_base.specs.Ordered.{Ascends, AscendsFrom}
use Rattle.room_base.proofs.OrderedNumbers.{compares_less}
use Rattle.room_rules.specs.declared.group.Member.{Member}
use Rattle.room_rules.specs.declared.schedule.Override.{Override}
use Rattle.catalog_change.specs.declared.resource.Resource.{Resource}
use Rattle.catalog_change.specs.declared.resource.Resource.TheVariants as resources
use Rattle.catalog_change.specs.declared.resource.ResourceKind.{ResourceKind}
use Rattle.catalog_change.specs.declared.resource.ResourceKind.TheVariants as kinds
use Rattle.catalog_change.specs.Resources.{IsListTo, IsMember, IsOverride, IsResource, IsShortName, day_of, kind_of, name_of}
use Rattle.resource_text.specs.Days.{IsDayText}
use Rattle.resource_text.specs.Lists.{AreEntries, AreItems, IsText, MayHaveTexts}
use Rattle.resource_text.specs.Reading.{IsItself, KeysAscend, Outcome}
use Rattle.resource_text.specs.Resources.{HasMembers, HasOverrides, IsMemberTable, IsOverrideText, client_gives, gives_of, group_gives, policy_gives, pool_gives, resource_gives, schedule_gives}
use Rattle.resource_text.proofs.DayOrder.{days_ascend}

-- an outcome is one thing
pub not_both : {Y P : Type 0} (y : Y) (field : List ℕ) → ◌≡◌ {A = Outcome Y} (Ok y) (Err field) → P
not_both {Y} y field is = absurd (let no : ◌≡◌ {A = Outcome Y} (Ok y) (Err field) = is in cc)

abbrev ok_or : {Y : Type 0} → Y → Outcome Y → Y
ok_or other (Ok y) = y
ok_or other (Err field) = other

pub same_ok : {Y : Type 0} (x y : Y) → ◌≡◌ {A = Outcome Y} (Ok x) (Ok y) → x ≡ y
same_ok {Y} x y is = ap (ok_or {Y = Y} x) is

-- ---- lists

items_are : (Is : List ℕ → Type 0) (items : Items) (xs : List (List ℕ)) → AreItems (IsText (IsItself Is)) items xs → AllByRecursion Is xs
items_are Is no_items xs are = subst (AllByRecursion Is) (sym are) tt
items_are Is (item value items) xs (x, others, (text, value_is, (is, ok)), more, same) =
    subst (AllByRecursion Is) (sym same) (subst Is (sym is) ok, items_are Is items others more)

may_list : (key : List ℕ) (Is : List ℕ → Type 0) (entries : Members) (xs : List (List ℕ)) → MayHaveTexts key 64 (IsItself Is) entries xs → IsListTo 64 Is xs
may_list key Is entries xs (inl (items, got, (are, few))) = record { count = few; each = items_are Is items xs are }
may_list key Is entries xs (inr (none, empty)) =
    let L : List (List ℕ) → Type 0 = λ names. IsListTo 64 Is names in
    subst L (sym empty) (record { count = omega arith; each = tt })

may_few : {X : Type 0} (key : List ℕ) (Is : List ℕ → X → Type 0) (entries : Members) (xs : List X) → MayHaveTexts key 64 Is entries xs → length xs ≤ 64
may_few key Is entries xs (inl (items, got, (are, few))) = few
may_few {X} key Is entries xs (inr (none, empty)) =
    let L : List X → Type 0 = λ names. length names ≤ 64 in
    subst L (sym empty) (omega arith)

members_are : (items : Items) (xs : List Member) → AreItems IsMemberTable items xs → AllByRecursion IsMember xs
members_are no_items xs are = subst (AllByRecursion IsMember) (sym are) tt
members_are (item value items) xs (x, others, is, more, same) =
    subst (AllByRecursion IsMember) (sym same) (record { client = is.client.1; set = is.set.1 }, members_are items others more)

has_members : (entries : Members) (xs : List Member) → HasMembers entries xs → IsListTo 256 IsMember xs
has_members entries xs (items, got, (are, few)) = record { count = few; each = members_are items xs are }

-- ---- overrides

overrides_are : (days : Members) (xs : List Override) → AreEntries IsOverrideText days xs → AllByRecursion IsOverride xs
overrides_are no_members xs are = subst (AllByRecursion IsOverride) (sym are) tt
overrides_are (member key value days) xs (x, others, (word, value_is, day, action), more, same) =
    subst (AllByRecursion IsOverride) (sym same) (day.day_is.last, overrides_are days others more)

pub is_less : (order : Ordering) → is_lt order ≡ true → order ≡ Less
is_less Less is = refl
is_less Equal is = absurd cc
is_less Greater is = absurd cc

days_from : (key : List ℕ) (low : ℕ) (days : Members) (xs : List Override) → IsDayText key low → is_before key days ≡ true → KeysAscend days
    → AreEntries IsOverrideText days xs → AscendsFrom nat_cmp day_of low xs
days_from key low no_members xs day before ascend are = subst (AscendsFrom nat_cmp day_of low) (sym are) tt
days_from key low (member next value days) xs day before ascend (x, others, (word, value_is, next_day, action), more, same) =
    subst (AscendsFrom nat_cmp day_of low) (sym same) (
      compares_less low x.day (days_ascend low x.day key next day next_day (is_less (slice_cmp nat_cmp key next) before)),
      days_from next x.day days others next_day ascend.0 ascend.1 more,
    )

overrides_ascend : (days : Members) (xs : List Override) → KeysAscend days → AreEntries IsOverrideText days xs → Ascends nat_cmp day_of xs
overrides_ascend no_members xs ascend are = subst (Ascends nat_cmp day_of) (sym are) tt
overrides_ascend (member key value days) xs ascend (x, others, (word, value_is, day, action), more, same) =
    subst (Ascends nat_cmp day_of) (sym same) (days_from key x.day days others day ascend.0 ascend.1 more)

record Overrides (xs : List Override) : Type 0 where
  pub list : IsListTo 64 IsOverride xs
  pub order : Ascends nat_cmp day_of xs

has_overrides : (entries : Members) (xs : List Override) → HasOverrides entries xs → Overrides xs
has_overrides entries xs (inl (days, got, (are, few, ascend))) = record {
  list = record { count = few; each = overrides_are days xs are };
  order = overrides_ascend days xs ascend are;
}
has_overrides entries xs (inr (none, empty)) = subst Overrides (sym empty) (record { list = record { count = omega arith; each = tt }; order = tt })

-- ---- resources

-- a resource is allowed, and has this kind and name
pub record Given (kind : ResourceKind) (name : List ℕ) (one : Resource) : Type 0 where
  pub allowed : IsResource one
  pub kind_is : kind_of one ≡ kind
  pub name_is : name_of one ≡ name

ended : (kind : ResourceKind) (name : List ℕ) (one is : Resource) → ◌≡◌ {A = Outcome Resource} (Ok one) (Ok is) → Given kind name is → Given kind name one
ended kind name one is same given = subst (Given kind name) (sym (same_ok one is same)) given

module _ (name : List ℕ) (entries : Members) (one : Resource) (short : IsShortName name) where
  policy_given : policy_gives name entries (Ok one) → Given kinds.Policy name one
  policy_given (inl (known, inl (count, has, inl (unit, is, same)))) =
      ended kinds.Policy name one (resources.Policy (record { name = name; count = count; unit = unit })) same
      (record { allowed = record { name = short; count = (has.1, has.2) }; kind_is = refl; name_is = refl })
  policy_given (inl (known, inl (count, has, inr (none, is)))) = not_both one _ is
  policy_given (inl (known, inr (none, is))) = not_both one _ is
  policy_given (inr (key, word, found, called, is)) = not_both one _ is

  pool_given : pool_gives name entries (Ok one) → Given kinds.Pool name one
  pool_given (inl (known, inl (groups, some, inl (clients, more, inl (sets, third, inl (levels, fourth, same)))))) =
      ended kinds.Pool name one (resources.Pool (record { name = name; groups = groups; clients = clients; sets = sets; levels = levels })) same
      (record {
        allowed = record {
          name = short;
          groups = may_list (codes "groups") _ entries groups some;
          clients = may_list (codes "clients") _ entries clients more;
          sets = may_list (codes "sets") _ entries sets third;
          levels = may_few (codes "levels") _ entries levels fourth;
        };
        kind_is = refl;
        name_is = refl;
      })
  pool_given (inl (known, inl (groups, some, inl (clients, more, inl (sets, third, inr (none, is)))))) = not_both one _ is
  pool_given (inl (known, inl (groups, some, inl (clients, more, inr (none, is))))) = not_both one _ is
  pool_given (inl (known, inl (groups, some, inr (none, is)))) = not_both one _ is
  pool_given (inl (known, inr (none, is))) = not_both one _ is
  pool_given (inr (key, word, found, called, is)) = not_both one _ is

  client_given : client_gives name entries (Ok one) → Given kinds.Client name one
  client_given (inl (known, inl (browse, has, inl (retention, holds, same)))) =
      ended kinds.Client name one (resources.Client (record { name = name; browse = browse; retention = retention })) same
      (record { allowed = record { name = short; browse = has.1; retention = holds.1 }; kind_is = refl; name_is = refl })
  client_given (inl (known, inl (browse, has, inr (none, is)))) = not_both one _ is
  client_given (inl (known, inr (none, is))) = not_both one _ is
  client_given (inr (key, word, found, called, is)) = not_both one _ is

  schedule_given : schedule_gives name entries (Ok one) → Given kinds.Schedule name one
  schedule_given (inl (known, inl (period, has, inl (actions, (items, got, ((are, few), some)), inl (overrides, holds, same))))) =
      let all = has_overrides entries overrides holds in
      ended kinds.Schedule name one (resources.Schedule (record { name = name; period = period; actions = actions; overrides = overrides })) same
      (record { allowed = record { name = short; actions = (some, few); overrides = all.list; order = all.order }; kind_is = refl; name_is = refl })
  schedule_given (inl (known, inl (period, has, inl (actions, are, inr (none, is))))) = not_both one _ is
  schedule_given (inl (known, inl (period, has, inr (none, is)))) = not_both one _ is
  schedule_given (inl (known, inr (none, is))) = not_both one _ is
  schedule_given (inr (key, word, found, called, is)) = not_both one _ is

  group_given : group_gives name entries (Ok one) → Given kinds.Group name one
  group_given (inl (known, inl (schedule, has, inl (list, holds, same)))) =
      ended kinds.Group name one (resources.Group (record { name = name; schedule = schedule; members = list })) same
      (record { allowed = record { name = short; schedule = has.1; members = has_members entries list holds }; kind_is = refl; name_is = refl })
  group_given (inl (known, inl (schedule, has, inr (none, is)))) = not_both one _ is
  group_given (inl (known, inr (none, is))) = not_both one _ is
  group_given (inr (key, word, found, called, is)) = not_both one _ is

  fields_given : (kind : ResourceKind) → gives_of kind name entries (Ok one) → Given kind name one
  fields_given kinds.Policy = policy_given
  fields_given kinds.Pool = pool_given
  fields_given kinds.Client = client_given
  fields_given kinds.Schedule = schedule_given
  fields_given kinds.Group = group_given

pub resource_given : (kind : ResourceKind) (name : List ℕ) (value : Data) (one : Resource) → resource_gives kind name value (Ok one) → Given kind name one
resource_given kind name value one (inl (itself, (is, short), inl (entries, table, gives))) =
    let G : List ℕ → Type 0 = λ text. Given kind text one in
    subst G is (fields_given itself entries one (subst IsShortName (sym is) short) kind gives)
resource_given kind name value one (inl (itself, is, inr (none, same))) = not_both one _ same
resource_given kind name value one (inr (none, same)) = not_both one _ same
