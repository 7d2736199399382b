-- Resources stay allowed when some are added, and when one that nothing needs is dropped.
use Rattle.std.proofs.Common.{◌≡◌, ◌≢◌, ℕ, zero, suc, ◌+◌, ◌≤◌, Bool, true, false, cond, List, [], ◌∷◌, length, Option, Some, None, refl, sym, subst, ap, ◌∙◌, inl, inr, arith}
use Rattle.std.specs.Prelude.{codes, filter_map}
use Rattle.std.specs.List.{AllByRecursion, Any, cons_option}
use Rattle.std.specs.Option.{is_some, option_or}
use Rattle.std.specs.Cmp.Lexicographic.{slice_cmp, nat_list_cmp_total}
use Rattle.std.specs.Ordering.{eq_by_cmp, is_eq, nat_cmp}
use Rattle.std.specs.declared.cmp.Ordering.{Ordering}
use Rattle.std.specs.declared.cmp.Ordering.TheVariants.{Less, Equal, Greater}
use Rattle.std.proofs.lemmas.Bool.{cond-true, false≢true, true≢false}
use Rattle.std.proofs.lemmas.Cmp.{tied_itself}
use Rattle.room_base.specs.Ordered.{Ascends}
use Rattle.room_base.proofs.OrderedLaws.{each_weaker, found_removed}
use Rattle.room_base.proofs.OrderedUpdates.{ascends_put, ascends_removed, each_put, each_removed}
use Rattle.room_rules.specs.declared.group.Group.{Group}
use Rattle.room_rules.specs.declared.group.Member.{Member}
use Rattle.room_rules.specs.declared.policy.Policy.{Policy}
use Rattle.room_rules.specs.declared.pool.Pool.{Pool}
use Rattle.room_rules.specs.declared.schedule.Schedule.{Schedule}
use Rattle.catalog_change.specs.declared.resource.Client.{Client}
use Rattle.catalog_change.specs.declared.resource.Resource.{Resource}
use Rattle.catalog_change.specs.declared.resource.Resource.TheVariants as resources
use Rattle.catalog_change.specs.declared.resource.ResourceKind.{ResourceKind}
use Rattle.catalog_change.specs.declared.resource.ResourceKind.TheVariants as kinds
use Rattle.catalog_change.specs.Catalogues.{AreNamed, HasClient, HasPolicies, HasResources, HasSchedule, Names, resource_count}
use Rattle.catalog_change.specs.Changes.{IsCount}
use Rattle.catalog_change.specs.Resources.{IsClient, IsGroup, IsPolicy, IsPool, IsResource, IsSchedule, client_name, group_name, kind_of, name_of, policy_name, pool_name, schedule_name}
use Rattle.resource_lists.specs.Changing.{with_each, without_named}
use Rattle.resource_lists.specs.Adding.{AreAddable, IsNamed, IsNotMemberOf, IsNotPolicyOf, IsThere, IsUnused, Refers}
use Rattle.room_catalog.specs.Held.{CatalogueLists, catalogue_of}
use Rattle.resource_lists.specs.Kinds.{as_client, as_group, as_policy, as_pool, as_schedule, find_named, put_each, put_named, remove_named}
use Rattle.room_catalog.proofs.Found.{Apart, found_each, same_name}
use Rattle.room_catalog.proofs.Kinded.{apart_of, client_says, group_says, policy_says, pool_says, schedule_says}
use Rattle.room_catalog.proofs.Updated.{length_put, length_removed}

equal_is : (order : Ordering) → is_eq order ≡ true → order ≡ Equal
equal_is Less e = absurd (true≢false (sym e))
equal_is Equal e = refl
equal_is Greater e = absurd (true≢false (sym e))

each_both : {X : Type 0} (P Q S : X → Type 0) → ((x : X) → P x → Q x → S x) → (xs : List X) → AllByRecursion P xs → AllByRecursion Q xs → AllByRecursion S xs
each_both P Q S both [] p q = tt
each_both P Q S both (x ∷ xs) p q = (both x p.0 q.0, each_both P Q S both xs p.1 q.1)

some_or : {X : Type 0} (one other : Option X) → is_some other ≡ true → is_some (option_or one other) ≡ true
some_or None other some = some
some_or (Some x) other some = refl

or_some : {X : Type 0} (one other : Option X) → is_some one ≡ true → is_some (option_or one other) ≡ true
or_some None other some = absurd (false≢true some)
or_some (Some x) other some = refl

module _ {X : Type 0} (name : X → List ℕ) where
  each_put_each : (P : X → Type 0) (items list : List X) → AllByRecursion P items → AllByRecursion P list → AllByRecursion P (put_each name items list)
  each_put_each P [] list new old = old
  each_put_each P (x ∷ xs) list new old = each_put_each P xs (put_named name x list) new.1 (each_put nat_list_cmp_total name P list x new.0 old)

  ascends_put_each : (items list : List X) → Ascends (slice_cmp nat_cmp) name list → Ascends (slice_cmp nat_cmp) name (put_each name items list)
  ascends_put_each [] list a = a
  ascends_put_each (x ∷ xs) list a = ascends_put_each xs (put_named name x list) (ascends_put nat_list_cmp_total name list x a)

  length_put_each : (items list : List X) → length (put_each name items list) ≤ length list + length items
  length_put_each [] list = omega arith
  length_put_each (x ∷ xs) list = let rest = length_put_each xs (put_named name x list) in let one = length_put nat_list_cmp_total name x list in omega arith

  named_each : (Is : X → Type 0) (items list : List X) → AllByRecursion Is items → AreNamed name Is list → AreNamed name Is (put_each name items list)
  named_each Is items list new old = record { each = each_put_each Is items list new old.each; order = ascends_put_each items list old.order }

  -- a name that was there is there
  names_each : (items list : List X) (wanted : List ℕ) → Apart name items → Names name list wanted → Names name (put_each name items list) wanted
  names_each items list wanted apart has = ap is_some (found_each name items list wanted apart) ∙ some_or (find_named name wanted items) (find_named name wanted list) has

  -- and so is a new one
  names_new : (items list : List X) (wanted : List ℕ) → Apart name items → Names name items wanted → Names name (put_each name items list) wanted
  names_new items list wanted apart has = ap is_some (found_each name items list wanted apart) ∙ or_some (find_named name wanted items) (find_named name wanted list) has

  named_without : (Is : X → Type 0) (gone : List ℕ) (list : List X) → AreNamed name Is list → AreNamed name Is (remove_named name gone list)
  named_without Is gone list old = record { each = each_removed nat_list_cmp_total name Is gone list old.each; order = ascends_removed nat_list_cmp_total name gone list old.order }

  -- every other name stays
  names_without : (gone wanted : List ℕ) (list : List X) → wanted ≢ gone → Names name list wanted → Names name (remove_named name gone list) wanted
  names_without gone wanted list differs has = ap is_some (found_removed nat_list_cmp_total name gone wanted list) ∙ by (eq_by_cmp (slice_cmp nat_cmp) gone wanted) refl
    where
      by : (here : Bool) → eq_by_cmp (slice_cmp nat_cmp) gone wanted ≡ here → is_some (cond here None (find_named name wanted list)) ≡ true
      by true is = absurd (differs (sym (same_name gone wanted (equal_is (slice_cmp nat_cmp gone wanted) is))))
      by false is = has

  module _ (kind : ResourceKind) (pick : Resource → Option X) where
    -- what each resource has, those of the kind have
    each_kind : (Is : Resource → Type 0) (P : X → Type 0) → ((r : Resource) (x : X) → pick r ≡ Some x → Is r → P x) → (new : List Resource) → AllByRecursion Is new → AllByRecursion P (filter_map pick new)
    each_kind Is P gives [] each = tt
    each_kind Is P gives (r ∷ others) each = by (pick r) refl (each_kind Is P gives others each.1)
      where
        by : (picked : Option X) → pick r ≡ picked → AllByRecursion P (filter_map pick others) → AllByRecursion P (cons_option picked (filter_map pick others))
        by None none rest = rest
        by (Some x) some rest = (gives r x some each.0, rest)

    module _ (takes : (r : Resource) → kind_of r ≡ kind → (x : X) × (pick r ≡ Some x) × (name x ≡ name_of r)) where
      first_named : (wanted : List ℕ) (picked : Option X) (rest : List X) (x : X) → picked ≡ Some x → name x ≡ wanted → Names name (cons_option picked rest) wanted
      first_named wanted None rest x is named = cc
      first_named wanted (Some y) rest x is named =
          let same : y ≡ x = cc in
          let wants : name y ≡ wanted = ap name same ∙ named in
          let here : eq_by_cmp (slice_cmp nat_cmp) (name y) wanted ≡ true = subst (λ (other : List ℕ). eq_by_cmp (slice_cmp nat_cmp) (name y) other ≡ true) wants (ap is_eq (tied_itself nat_list_cmp_total (name y))) in
          ap is_some (cond-true (eq_by_cmp (slice_cmp nat_cmp) (name y) wanted) (Some y) (find_named name wanted rest) here)

      later_named : (wanted : List ℕ) (picked : Option X) (rest : List X) → Names name rest wanted → Names name (cons_option picked rest) wanted
      later_named wanted None rest has = has
      later_named wanted (Some y) rest has = by (eq_by_cmp (slice_cmp nat_cmp) (name y) wanted)
        where
          by : (here : Bool) → is_some (cond here (Some y) (find_named name wanted rest)) ≡ true
          by true = refl
          by false = has

      -- a new one of the kind is found by its name
      any_named : (wanted : List ℕ) (new : List Resource) → Any (IsNamed kind wanted) new → Names name (filter_map pick new) wanted
      any_named wanted [] (at, r, below, there, is) = absurd (omega arith)
      any_named wanted (r ∷ others) (zero, one, below, there, is) =
          let same : r ≡ one = there in
          let taken = takes r (ap kind_of same ∙ is.0) in
          first_named wanted (pick r) (filter_map pick others) taken.0 taken.1 (taken.2 ∙ ap name_of same ∙ is.1)
      any_named wanted (r ∷ others) (suc at, one, below, there, is) = later_named wanted (pick r) (filter_map pick others) (any_named wanted others (at, one, omega arith, there, is))

policy_takes : (r : Resource) → kind_of r ≡ kinds.Policy → (x : Policy) × (as_policy r ≡ Some x) × (policy_name x ≡ name_of r)
policy_takes (resources.Policy y) is = (y, refl, refl)
policy_takes (resources.Pool y) is = cc
policy_takes (resources.Client y) is = cc
policy_takes (resources.Schedule y) is = cc
policy_takes (resources.Group y) is = cc

policy_allowed : (r : Resource) (x : Policy) → as_policy r ≡ Some x → IsResource r → IsPolicy x
policy_allowed (resources.Policy y) x is allowed = let same : y ≡ x = cc in subst IsPolicy same allowed
policy_allowed (resources.Pool y) x is allowed = cc
policy_allowed (resources.Client y) x is allowed = cc
policy_allowed (resources.Schedule y) x is allowed = cc
policy_allowed (resources.Group y) x is allowed = cc

pool_takes : (r : Resource) → kind_of r ≡ kinds.Pool → (x : Pool) × (as_pool r ≡ Some x) × (pool_name x ≡ name_of r)
pool_takes (resources.Policy y) is = cc
pool_takes (resources.Pool y) is = (y, refl, refl)
pool_takes (resources.Client y) is = cc
pool_takes (resources.Schedule y) is = cc
pool_takes (resources.Group y) is = cc

pool_allowed : (r : Resource) (x : Pool) → as_pool r ≡ Some x → IsResource r → IsPool x
pool_allowed (resources.Policy y) x is allowed = cc
pool_allowed (resources.Pool y) x is allowed = let same : y ≡ x = cc in subst IsPool same allowed
pool_allowed (resources.Client y) x is allowed = cc
pool_allowed (resources.Schedule y) x is allowed = cc
pool_allowed (resources.Group y) x is allowed = cc

client_takes : (r : Resource) → kind_of r ≡ kinds.Client → (x : Client) × (as_client r ≡ Some x) × (client_name x ≡ name_of r)
client_takes (resources.Policy y) is = cc
client_takes (resources.Pool y) is = cc
client_takes (resources.Client y) is = (y, refl, refl)
client_takes (resources.Schedule y) is = cc
client_takes (resources.Group y) is = cc

client_allowed : (r : Resource) (x : Client) → as_client r ≡ Some x → IsResource r → IsClient x
client_allowed (resources.Policy y) x is allowed = cc
client_allowed (resources.Pool y) x is allowed = cc
client_allowed (resources.Client y) x is allowed = let same : y ≡ x = cc in subst IsClient same allowed
client_allowed (resources.Schedule y) x is allowed = cc
client_allowed (resources.Group y) x is allowed = cc

schedule_takes : (r : Resource) → kind_of r ≡ kinds.Schedule → (x : Schedule) × (as_schedule r ≡ Some x) × (schedule_name x ≡ name_of r)
schedule_takes (resources.Policy y) is = cc
schedule_takes (resources.Pool y) is = cc
schedule_takes (resources.Client y) is = cc
schedule_takes (resources.Schedule y) is = (y, refl, refl)
schedule_takes (resources.Group y) is = cc

schedule_allowed : (r : Resource) (x : Schedule) → as_schedule r ≡ Some x → IsResource r → IsSchedule x
schedule_allowed (resources.Policy y) x is allowed = cc
schedule_allowed (resources.Pool y) x is allowed = cc
schedule_allowed (resources.Client y) x is allowed = cc
schedule_allowed (resources.Schedule y) x is allowed = let same : y ≡ x = cc in subst IsSchedule same allowed
schedule_allowed (resources.Group y) x is allowed = cc

group_takes : (r : Resource) → kind_of r ≡ kinds.Group → (x : Group) × (as_group r ≡ Some x) × (group_name x ≡ name_of r)
group_takes (resources.Policy y) is = cc
group_takes (resources.Pool y) is = cc
group_takes (resources.Client y) is = cc
group_takes (resources.Schedule y) is = cc
group_takes (resources.Group y) is = (y, refl, refl)

group_allowed : (r : Resource) (x : Group) → as_group r ≡ Some x → IsResource r → IsGroup x
group_allowed (resources.Policy y) x is allowed = cc
group_allowed (resources.Pool y) x is allowed = cc
group_allowed (resources.Client y) x is allowed = cc
group_allowed (resources.Schedule y) x is allowed = cc
group_allowed (resources.Group y) x is allowed = let same : y ≡ x = cc in subst IsGroup same allowed

-- each resource is of one kind
kinds_make_all : (new : List Resource) → length (filter_map as_policy new) + length (filter_map as_pool new) + length (filter_map as_client new) + length (filter_map as_schedule new) + length (filter_map as_group new) ≡ length new
kinds_make_all [] = refl
kinds_make_all (resources.Policy x ∷ others) = let rest = kinds_make_all others in omega arith
kinds_make_all (resources.Pool x ∷ others) = let rest = kinds_make_all others in omega arith
kinds_make_all (resources.Client x ∷ others) = let rest = kinds_make_all others in omega arith
kinds_make_all (resources.Schedule x ∷ others) = let rest = kinds_make_all others in omega arith
kinds_make_all (resources.Group x ∷ others) = let rest = kinds_make_all others in omega arith

-- ---- resources that are added

module _ (lists : CatalogueLists) (new : List Resource) (is : HasResources (catalogue_of lists)) (allowed : AllByRecursion IsResource new) (fits : AreAddable lists.resources new) where
  policy_apart : Apart policy_name (filter_map as_policy new)
  policy_apart = apart_of kinds.Policy as_policy policy_name policy_says new fits.distinct

  policy_stays : (wanted : List ℕ) → Names policy_name lists.resources.policies wanted → Names policy_name (put_each policy_name (filter_map as_policy new) lists.resources.policies) wanted
  policy_stays wanted has = names_each policy_name (filter_map as_policy new) lists.resources.policies wanted policy_apart has

  pool_apart : Apart pool_name (filter_map as_pool new)
  pool_apart = apart_of kinds.Pool as_pool pool_name pool_says new fits.distinct

  pool_stays : (wanted : List ℕ) → Names pool_name lists.resources.pools wanted → Names pool_name (put_each pool_name (filter_map as_pool new) lists.resources.pools) wanted
  pool_stays wanted has = names_each pool_name (filter_map as_pool new) lists.resources.pools wanted pool_apart has

  client_apart : Apart client_name (filter_map as_client new)
  client_apart = apart_of kinds.Client as_client client_name client_says new fits.distinct

  client_stays : (wanted : List ℕ) → Names client_name lists.resources.clients wanted → Names client_name (put_each client_name (filter_map as_client new) lists.resources.clients) wanted
  client_stays wanted has = names_each client_name (filter_map as_client new) lists.resources.clients wanted client_apart has

  schedule_apart : Apart schedule_name (filter_map as_schedule new)
  schedule_apart = apart_of kinds.Schedule as_schedule schedule_name schedule_says new fits.distinct

  schedule_stays : (wanted : List ℕ) → Names schedule_name lists.resources.schedules wanted → Names schedule_name (put_each schedule_name (filter_map as_schedule new) lists.resources.schedules) wanted
  schedule_stays wanted has = names_each schedule_name (filter_map as_schedule new) lists.resources.schedules wanted schedule_apart has

  group_apart : Apart group_name (filter_map as_group new)
  group_apart = apart_of kinds.Group as_group group_name group_says new fits.distinct

  group_stays : (wanted : List ℕ) → Names group_name lists.resources.groups wanted → Names group_name (put_each group_name (filter_map as_group new) lists.resources.groups) wanted
  group_stays wanted has = names_each group_name (filter_map as_group new) lists.resources.groups wanted group_apart has

  policy_there : (wanted : List ℕ) → IsThere lists.resources new kinds.Policy wanted → Names policy_name (put_each policy_name (filter_map as_policy new) lists.resources.policies) wanted
  policy_there wanted (inl has) = policy_stays wanted has
  policy_there wanted (inr some) = names_new policy_name (filter_map as_policy new) lists.resources.policies wanted policy_apart (any_named policy_name kinds.Policy as_policy policy_takes wanted new some)

  client_there : (wanted : List ℕ) → IsThere lists.resources new kinds.Client wanted → Names client_name (put_each client_name (filter_map as_client new) lists.resources.clients) wanted
  client_there wanted (inl has) = client_stays wanted has
  client_there wanted (inr some) = names_new client_name (filter_map as_client new) lists.resources.clients wanted client_apart (any_named client_name kinds.Client as_client client_takes wanted new some)

  schedule_there : (wanted : List ℕ) → IsThere lists.resources new kinds.Schedule wanted → Names schedule_name (put_each schedule_name (filter_map as_schedule new) lists.resources.schedules) wanted
  schedule_there wanted (inl has) = schedule_stays wanted has
  schedule_there wanted (inr some) = names_new schedule_name (filter_map as_schedule new) lists.resources.schedules wanted schedule_apart (any_named schedule_name kinds.Schedule as_schedule schedule_takes wanted new some)

  client_refers : (r : Resource) (x : Client) → as_client r ≡ Some x → Refers lists.resources new r → HasPolicies (put_each policy_name (filter_map as_policy new) lists.resources.policies) x
  client_refers (resources.Policy y) x picked refers = cc
  client_refers (resources.Pool y) x picked refers = cc
  client_refers (resources.Client y) x picked refers =
      let same : y ≡ x = cc in
      subst (HasPolicies (put_each policy_name (filter_map as_policy new) lists.resources.policies)) same (policy_there y.browse refers.0, policy_there y.retention refers.1)
  client_refers (resources.Schedule y) x picked refers = cc
  client_refers (resources.Group y) x picked refers = cc

  group_refers : (r : Resource) (x : Group) → as_group r ≡ Some x → Refers lists.resources new r
      → HasSchedule (put_each schedule_name (filter_map as_schedule new) lists.resources.schedules) (put_each client_name (filter_map as_client new) lists.resources.clients) x
  group_refers (resources.Policy y) x picked refers = cc
  group_refers (resources.Pool y) x picked refers = cc
  group_refers (resources.Client y) x picked refers = cc
  group_refers (resources.Schedule y) x picked refers = cc
  group_refers (resources.Group y) x picked refers =
      let same : y ≡ x = cc in
      subst (HasSchedule (put_each schedule_name (filter_map as_schedule new) lists.resources.schedules) (put_each client_name (filter_map as_client new) lists.resources.clients)) same
      (schedule_there y.schedule refers.0, each_weaker (λ member. IsThere lists.resources new kinds.Client member.client) (HasClient (put_each client_name (filter_map as_client new) lists.resources.clients)) (λ member there. client_there member.client there) y.members refers.1)

  pub added_are : IsCount (resource_count (catalogue_of lists) + length new) → HasResources (catalogue_of (record lists { resources = with_each new lists.resources }))
  added_are room = record {
    policies = named_each policy_name IsPolicy (filter_map as_policy new) lists.resources.policies (each_kind policy_name kinds.Policy as_policy IsResource IsPolicy policy_allowed new allowed) is.policies;
    pools = named_each pool_name IsPool (filter_map as_pool new) lists.resources.pools (each_kind pool_name kinds.Pool as_pool IsResource IsPool pool_allowed new allowed) is.pools;
    clients = named_each client_name IsClient (filter_map as_client new) lists.resources.clients (each_kind client_name kinds.Client as_client IsResource IsClient client_allowed new allowed) is.clients;
    schedules = named_each schedule_name IsSchedule (filter_map as_schedule new) lists.resources.schedules (each_kind schedule_name kinds.Schedule as_schedule IsResource IsSchedule schedule_allowed new allowed) is.schedules;
    groups = named_each group_name IsGroup (filter_map as_group new) lists.resources.groups (each_kind group_name kinds.Group as_group IsResource IsGroup group_allowed new allowed) is.groups;
    count =
        let policies = length_put_each policy_name (filter_map as_policy new) lists.resources.policies in
        let pools = length_put_each pool_name (filter_map as_pool new) lists.resources.pools in
        let clients = length_put_each client_name (filter_map as_client new) lists.resources.clients in
        let schedules = length_put_each schedule_name (filter_map as_schedule new) lists.resources.schedules in
        let groups = length_put_each group_name (filter_map as_group new) lists.resources.groups in
        let all = kinds_make_all new in
        omega arith;
    kept = each_put_each client_name (HasPolicies (put_each policy_name (filter_map as_policy new) lists.resources.policies)) (filter_map as_client new) lists.resources.clients
        (each_kind client_name kinds.Client as_client (Refers lists.resources new) (HasPolicies (put_each policy_name (filter_map as_policy new) lists.resources.policies)) client_refers new fits.refer)
        (each_weaker (HasPolicies lists.resources.policies) (HasPolicies (put_each policy_name (filter_map as_policy new) lists.resources.policies)) (λ client has. (policy_stays client.browse has.0, policy_stays client.retention has.1)) lists.resources.clients is.kept);
    scheduled = each_put_each group_name (HasSchedule (put_each schedule_name (filter_map as_schedule new) lists.resources.schedules) (put_each client_name (filter_map as_client new) lists.resources.clients)) (filter_map as_group new) lists.resources.groups
        (each_kind group_name kinds.Group as_group (Refers lists.resources new) (HasSchedule (put_each schedule_name (filter_map as_schedule new) lists.resources.schedules) (put_each client_name (filter_map as_client new) lists.resources.clients)) group_refers new fits.refer)
        (each_weaker (HasSchedule lists.resources.schedules lists.resources.clients) (HasSchedule (put_each schedule_name (filter_map as_schedule new) lists.resources.schedules) (put_each client_name (filter_map as_client new) lists.resources.clients))
        (λ group has. (schedule_stays group.schedule has.0, each_weaker (HasClient lists.resources.clients) (HasClient (put_each client_name (filter_map as_client new) lists.resources.clients)) (λ member there. client_stays member.client there) group.members has.1)) lists.resources.groups is.scheduled);
    default = pool_stays (codes "Default") is.default;
    room = client_stays (codes "room") is.room;
  }

-- ---- a resource that is dropped

pub dropped_are : (lists : CatalogueLists) (kind : ResourceKind) (gone : List ℕ) → HasResources (catalogue_of lists) → IsUnused lists.resources kind gone → HasResources (catalogue_of (record lists { resources = without_named kind gone lists.resources }))
dropped_are lists kinds.Policy gone is free = record {
  policies = named_without policy_name IsPolicy gone lists.resources.policies is.policies;
  pools = is.pools;
  clients = is.clients;
  schedules = is.schedules;
  groups = is.groups;
  count = let less = length_removed nat_list_cmp_total policy_name gone lists.resources.policies in let all = is.count in omega arith;
  kept = each_both (HasPolicies lists.resources.policies) (IsNotPolicyOf gone) (HasPolicies (remove_named policy_name gone lists.resources.policies)) (λ client has free. (names_without policy_name gone client.browse lists.resources.policies free.0 has.0, names_without policy_name gone client.retention lists.resources.policies free.1 has.1)) lists.resources.clients is.kept free;
  scheduled = is.scheduled;
  default = is.default;
  room = is.room;
}
dropped_are lists kinds.Pool gone is free = record {
  policies = is.policies;
  pools = named_without pool_name IsPool gone lists.resources.pools is.pools;
  clients = is.clients;
  schedules = is.schedules;
  groups = is.groups;
  count = let less = length_removed nat_list_cmp_total pool_name gone lists.resources.pools in let all = is.count in omega arith;
  kept = is.kept;
  scheduled = is.scheduled;
  default = names_without pool_name gone (codes "Default") lists.resources.pools (λ same. free (sym same)) is.default;
  room = is.room;
}
dropped_are lists kinds.Client gone is free = record {
  policies = is.policies;
  pools = is.pools;
  clients = named_without client_name IsClient gone lists.resources.clients is.clients;
  schedules = is.schedules;
  groups = is.groups;
  count = let less = length_removed nat_list_cmp_total client_name gone lists.resources.clients in let all = is.count in omega arith;
  kept = each_removed nat_list_cmp_total client_name (HasPolicies lists.resources.policies) gone lists.resources.clients is.kept;
  scheduled = each_both (HasSchedule lists.resources.schedules lists.resources.clients) (IsNotMemberOf gone) (HasSchedule lists.resources.schedules (remove_named client_name gone lists.resources.clients)) (λ group has other. (has.0, each_both (HasClient lists.resources.clients) (λ (member : Member). member.client ≢ gone) (HasClient (remove_named client_name gone lists.resources.clients)) (λ member there differs. names_without client_name gone member.client lists.resources.clients differs there) group.members has.1 other)) lists.resources.groups is.scheduled free.1;
  default = is.default;
  room = names_without client_name gone (codes "room") lists.resources.clients (λ same. free.0 (sym same)) is.room;
}
dropped_are lists kinds.Schedule gone is free = record {
  policies = is.policies;
  pools = is.pools;
  clients = is.clients;
  schedules = named_without schedule_name IsSchedule gone lists.resources.schedules is.schedules;
  groups = is.groups;
  count = let less = length_removed nat_list_cmp_total schedule_name gone lists.resources.schedules in let all = is.count in omega arith;
  kept = is.kept;
  scheduled = each_both (HasSchedule lists.resources.schedules lists.resources.clients) (λ (group : Group). group.schedule ≢ gone) (HasSchedule (remove_named schedule_name gone lists.resources.schedules) lists.resources.clients) (λ group has differs. (names_without schedule_name gone group.schedule lists.resources.schedules differs has.0, has.1)) lists.resources.groups is.scheduled free;
  default = is.default;
  room = is.room;
}
dropped_are lists kinds.Group gone is free = record {
  policies = is.policies;
  pools = is.pools;
  clients = is.clients;
  schedules = is.schedules;
  groups = named_without group_name IsGroup gone lists.resources.groups is.groups;
  count = let less = length_removed nat_list_cmp_total group_name gone lists.resources.groups in let all = is.count in omega arith;
  kept = is.kept;
  scheduled = each_removed nat_list_cmp_total group_name (HasSchedule lists.resources.schedules lists.resources.clients) gone lists.resources.groups is.scheduled;
  default = is.default;
  room = is.room;
}
