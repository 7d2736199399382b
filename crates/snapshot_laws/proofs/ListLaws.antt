-- All resources in one list: what is read is spelled so and allowed, and what is allowed is read.
use Rattle.std.proofs.Common.{◌≡◌, ℕ, zero, suc, ◌≤◌, true, List, [], ◌∷◌, ◌++◌, length, Ok, Err, refl, sym, ap, subst, ◌∙◌, append_assoc, arith}
use Rattle.std.specs.Prelude.{◌&&◌, map}
use Rattle.std.proofs.lemmas.Bool.{eqb-true}
use Rattle.std.proofs.lemmas.Grind.{flat_map-append}
use Rattle.std.proofs.lemmas.List.{append-nil, length-append, length-map, map-append, nil_from_length}
use Rattle.std.proofs.lemmas.List.Folds.{flat_map-map}
use Rattle.save_stream.proofs.Sound.{both-true}
use Rattle.catalog_change.specs.declared.resource.Resource.{Resource}
use Rattle.catalog_change.specs.declared.resource.Resource.TheVariants as resources
use Rattle.catalog_spelling.specs.Reading.{Part, ◌>>=◌}
use Rattle.catalog_spelling.specs.Spelled.{Took, Judged, Reads}
use Rattle.catalog_spelling.specs.Fields.{number_bytes, number_within_at}
use Rattle.catalog_spelling.specs.Lists.{AllBehind, items_at, list_at, list_text}
use Rattle.catalog_spelling.specs.Resources.{resource_text}
use Rattle.catalog_spelling.specs.Changes.{max_count}
use Rattle.catalog_spelling.proofs.Fields.{u32-within}
use Rattle.catalog_spelling.proofs.Lists.{list-reads, IsListOf}
use Rattle.catalog_spelling.specs.declared.snapshot_fields.ResourceLists.{ResourceLists}
use Rattle.catalog_spelling.specs.SnapshotResources.{can_follow, count_of, is_none, lists_at, lists_text, more_at, no_resources}
use Rattle.snapshot_laws.proofs.KindLaws.{with_resource, IsNextResource, byte_of, resource_at, resource-reads, put_behind, next-same}
use Rattle.snapshot_laws.proofs.Ordered.{behind-push}
use Rattle.snapshot_laws.proofs.ResourceLaws.{IsPolicyIf, IsPoolIf, IsClientIf, IsScheduleIf, IsGroupIf}

-- ---- resources one behind the other

-- the resources with more behind those of their kinds
abbrev pub with_each : ResourceLists → List Resource → ResourceLists
with_each lists [] = lists
with_each lists (resource ∷ more) = with_each (with_resource lists resource) more

-- resources by their kinds
abbrev pub gathered : List Resource → ResourceLists
gathered all = with_each no_resources all

with-push : (lists : ResourceLists) (before : List Resource) (resource : Resource) → with_each lists (before ++ resource ∷ []) ≡ with_resource (with_each lists before) resource
with-push lists [] resource = refl
with-push lists (one ∷ before) resource = with-push (with_resource lists one) before resource

gathered-push : (before : List Resource) (resource : Resource) → gathered (before ++ resource ∷ []) ≡ with_resource (gathered before) resource
gathered-push before resource = with-push no_resources before resource

-- a resource that may stand behind these
abbrev pub IsBehind : List Resource → Resource → Type 0
IsBehind before resource = IsNextResource (gathered before) resource

abbrev item_at : List Resource → List ℕ → Part Resource
item_at before bytes = resource_at (gathered before) bytes

abbrev many_at : List ℕ → Part (List Resource)
many_at bytes = list_at (number_within_at 4 0 max_count) item_at bytes

abbrev pub many_text : List Resource → List ℕ
many_text all = list_text (number_bytes 4) resource_text all

many-read : Reads many_at many_text (IsListOf (λ n. (0 ≤ n) × (n ≤ max_count)) IsBehind)
many-read = list-reads (u32-within 0 max_count (omega arith)) item_at resource_text IsBehind (λ before. resource-reads (gathered before))

-- ---- they are read by their kinds

abbrev by_kinds : Part (List Resource) → Part ResourceLists
by_kinds part = part >>= λ all. Ok (gathered all.0, all.1)

more-part : (count : ℕ) (before : List Resource) (part : Part Resource)
    → ((resource : Resource) (rest : List ℕ) → more_at count (with_resource (gathered before) resource) rest ≡ by_kinds (items_at item_at count (before ++ resource ∷ []) rest))
    → (put_behind (gathered before) part >>= λ more. more_at count more.0 more.1) ≡ by_kinds (part >>= λ item. items_at item_at count (before ++ item.0 ∷ []) item.1)
more-part count before (Ok x) on = on x.0 x.1
more-part count before (Err behind) on = refl

more-same : (count : ℕ) (before : List Resource) (bytes : List ℕ) → more_at count (gathered before) bytes ≡ by_kinds (items_at item_at count before bytes)
unfolding more_at items_at
more-same zero before bytes = refl
more-same (suc count) before bytes =
    ap (λ (part : Part ResourceLists). part >>= λ more. more_at count more.0 more.1) (next-same (gathered before) bytes)
    ∙ more-part count before (resource_at (gathered before) bytes)
    (λ resource rest. ap (λ (lists : ResourceLists). more_at count lists rest) (sym (gathered-push before resource)) ∙ more-same count (before ++ resource ∷ []) rest)

lists-part : (part : Part ℕ) → (part >>= λ count. more_at count.0 no_resources count.1) ≡ by_kinds (part >>= λ count. items_at item_at count.0 [] count.1)
lists-part (Ok count) = more-same count.0 [] count.1
lists-part (Err behind) = refl

lists-same : (bytes : List ℕ) → lists_at bytes ≡ by_kinds (many_at bytes)
unfolding lists_at list_at
lists-same bytes = lists-part (number_within_at 4 0 max_count bytes)

-- ---- the one order of resources

-- all resources in the order of their kinds
abbrev pub all_of : ResourceLists → List Resource
all_of lists =
    map (λ x. resources.Policy x) lists.policies ++ map (λ x. resources.Pool x) lists.pools ++ map (λ x. resources.Client x) lists.clients ++ map (λ x. resources.Schedule x) lists.schedules
    ++ map (λ x. resources.Group x) lists.groups

-- each resource is allowed behind those of its kind, and what it names is there
pub record AreKinds (lists : ResourceLists) : Type 0 where
  pub policies : AllBehind IsPolicyIf [] lists.policies
  pub pools : AllBehind IsPoolIf [] lists.pools
  pub clients : AllBehind (IsClientIf lists.policies) [] lists.clients
  pub schedules : AllBehind IsScheduleIf [] lists.schedules
  pub groups : AllBehind (IsGroupIf lists.schedules lists.clients) [] lists.groups

abbrev pub AreListsIf : ResourceLists → Type 0
AreListsIf lists = AreKinds lists × (count_of lists ≤ max_count)

none-is : {X : Type 0} (xs : List X) → is_none xs ≡ true → xs ≡ []
none-is xs is = nil_from_length xs (eqb-true (length xs) 0 is)

-- which kinds there are none of
pub record NoneBehindPolicies (lists : ResourceLists) : Type 0 where
  pub pools : lists.pools ≡ []
  pub clients : lists.clients ≡ []
  pub schedules : lists.schedules ≡ []
  pub groups : lists.groups ≡ []

none-behind-policies : (lists : ResourceLists) → can_follow lists 0x50 ≡ true → NoneBehindPolicies lists
none-behind-policies lists is =
    let last = both-true (is_none lists.pools && is_none lists.clients && is_none lists.schedules) (is_none lists.groups) is in
    let third = both-true (is_none lists.pools && is_none lists.clients) (is_none lists.schedules) last.0 in
    let first = both-true (is_none lists.pools) (is_none lists.clients) third.0 in
    record { pools = none-is lists.pools first.0; clients = none-is lists.clients first.1; schedules = none-is lists.schedules third.1; groups = none-is lists.groups last.1 }

none-behind-pools : (lists : ResourceLists) → can_follow lists 0x4F ≡ true → (lists.clients ≡ []) × (lists.schedules ≡ []) × (lists.groups ≡ [])
none-behind-pools lists is =
    let last = both-true (is_none lists.clients && is_none lists.schedules) (is_none lists.groups) is in
    let first = both-true (is_none lists.clients) (is_none lists.schedules) last.0 in
    (none-is lists.clients first.0, none-is lists.schedules first.1, none-is lists.groups last.1)

none-behind-clients : (lists : ResourceLists) → can_follow lists 0x43 ≡ true → (lists.schedules ≡ []) × (lists.groups ≡ [])
none-behind-clients lists is =
    let parts = both-true (is_none lists.schedules) (is_none lists.groups) is in
    (none-is lists.schedules parts.0, none-is lists.groups parts.1)

none-behind-schedules : (lists : ResourceLists) → can_follow lists 0x53 ≡ true → lists.groups ≡ []
none-behind-schedules lists is = none-is lists.groups is

-- one more resource of the last kind that there is
push-map : {X : Type 0} (make : X → Resource) (front : List Resource) (xs : List X) (x : X) → front ++ map make (xs ++ x ∷ []) ≡ (front ++ map make xs) ++ make x ∷ []
push-map make front xs x = ap (λ (ys : List Resource). front ++ ys) (map-append make xs (x ∷ [])) ∙ sym (append_assoc front (map make xs) (make x ∷ []))

-- nothing stands behind a front
one-nil : (front : List Resource) {X : Type 0} (make : X → Resource) (xs : List X) → xs ≡ [] → front ++ map make xs ≡ front
one-nil front make xs is = ap (λ (ys : List _). front ++ map make ys) is ∙ append-nil front

abbrev policies_of : ResourceLists → List Resource
policies_of lists = map (λ x. resources.Policy x) lists.policies

abbrev to_pools : ResourceLists → List Resource
to_pools lists = policies_of lists ++ map (λ x. resources.Pool x) lists.pools

abbrev to_clients : ResourceLists → List Resource
to_clients lists = to_pools lists ++ map (λ x. resources.Client x) lists.clients

abbrev to_schedules : ResourceLists → List Resource
to_schedules lists = to_clients lists ++ map (λ x. resources.Schedule x) lists.schedules

no-groups : (lists : ResourceLists) → lists.groups ≡ [] → all_of lists ≡ to_schedules lists
no-groups lists is = one-nil (to_schedules lists) (λ x. resources.Group x) lists.groups is

no-schedules : (lists : ResourceLists) → lists.schedules ≡ [] → to_schedules lists ≡ to_clients lists
no-schedules lists is = one-nil (to_clients lists) (λ x. resources.Schedule x) lists.schedules is

no-clients : (lists : ResourceLists) → lists.clients ≡ [] → to_clients lists ≡ to_pools lists
no-clients lists is = one-nil (to_pools lists) (λ x. resources.Client x) lists.clients is

no-pools : (lists : ResourceLists) → lists.pools ≡ [] → to_pools lists ≡ policies_of lists
no-pools lists is = one-nil (policies_of lists) (λ x. resources.Pool x) lists.pools is

to-policies : (lists : ResourceLists) → NoneBehindPolicies lists → all_of lists ≡ policies_of lists
to-policies lists none = no-groups lists none.groups ∙ no-schedules lists none.schedules ∙ no-clients lists none.clients ∙ no-pools lists none.pools

to-pools : (lists : ResourceLists) → (lists.clients ≡ []) × (lists.schedules ≡ []) × (lists.groups ≡ []) → all_of lists ≡ to_pools lists
to-pools lists none = no-groups lists none.2 ∙ no-schedules lists none.1 ∙ no-clients lists none.0

to-clients : (lists : ResourceLists) → (lists.schedules ≡ []) × (lists.groups ≡ []) → all_of lists ≡ to_clients lists
to-clients lists none = no-groups lists none.1 ∙ no-schedules lists none.0

-- what follows all of them is the last of them
all-push : (lists : ResourceLists) (resource : Resource) → can_follow lists (byte_of resource) ≡ true → all_of (with_resource lists resource) ≡ all_of lists ++ resource ∷ []
all-push lists (resources.Policy policy) is =
    let none = none-behind-policies lists is in
    let with = with_resource lists (resources.Policy policy) in
    to-policies with (record { pools = none.pools; clients = none.clients; schedules = none.schedules; groups = none.groups })
    ∙ push-map (λ x. resources.Policy x) [] lists.policies policy
    ∙ ap (λ (xs : List Resource). xs ++ resources.Policy policy ∷ []) (sym (to-policies lists none))
all-push lists (resources.Pool pool) is =
    let none = none-behind-pools lists is in
    to-pools (with_resource lists (resources.Pool pool)) none
    ∙ push-map (λ x. resources.Pool x) (policies_of lists) lists.pools pool
    ∙ ap (λ (xs : List Resource). xs ++ resources.Pool pool ∷ []) (sym (to-pools lists none))
all-push lists (resources.Client client) is =
    let none = none-behind-clients lists is in
    to-clients (with_resource lists (resources.Client client)) none
    ∙ push-map (λ x. resources.Client x) (to_pools lists) lists.clients client
    ∙ ap (λ (xs : List Resource). xs ++ resources.Client client ∷ []) (sym (to-clients lists none))
all-push lists (resources.Schedule schedule) is =
    let none = none-behind-schedules lists is in
    no-groups (with_resource lists (resources.Schedule schedule)) none
    ∙ push-map (λ x. resources.Schedule x) (to_clients lists) lists.schedules schedule
    ∙ ap (λ (xs : List Resource). xs ++ resources.Schedule schedule ∷ []) (sym (no-groups lists none))
all-push lists (resources.Group group) is = push-map (λ x. resources.Group x) (to_schedules lists) lists.groups group

all-behind-none : {X : Type 0} (P : List X → X → Type 0) (xs : List X) → xs ≡ [] → AllBehind P [] xs
all-behind-none {X = X} P xs is = subst (λ (ys : List X). AllBehind P [] ys) (sym is) tt

kinds-push : (lists : ResourceLists) (resource : Resource) → AreKinds lists → IsNextResource lists resource → AreKinds (with_resource lists resource)
kinds-push lists (resources.Policy policy) are is =
    let none = none-behind-policies lists is.1 in
    record {
      policies = behind-push IsPolicyIf [] lists.policies policy are.policies is.0;
      pools = are.pools;
      clients = all-behind-none (IsClientIf (lists.policies ++ policy ∷ [])) lists.clients none.clients;
      schedules = are.schedules;
      groups = are.groups;
    }
kinds-push lists (resources.Pool pool) are is =
    record { policies = are.policies; pools = behind-push IsPoolIf [] lists.pools pool are.pools is.0; clients = are.clients; schedules = are.schedules; groups = are.groups }
kinds-push lists (resources.Client client) are is =
    let none = none-behind-clients lists is.1 in
    record {
      policies = are.policies;
      pools = are.pools;
      clients = behind-push (IsClientIf lists.policies) [] lists.clients client are.clients is.0;
      schedules = are.schedules;
      groups = all-behind-none (IsGroupIf lists.schedules (lists.clients ++ client ∷ [])) lists.groups none.1;
    }
kinds-push lists (resources.Schedule schedule) are is =
    record {
      policies = are.policies;
      pools = are.pools;
      clients = are.clients;
      schedules = behind-push IsScheduleIf [] lists.schedules schedule are.schedules is.0;
      groups = all-behind-none (IsGroupIf (lists.schedules ++ schedule ∷ []) lists.clients) lists.groups (none-behind-schedules lists is.1);
    }
kinds-push lists (resources.Group group) are is =
    record { policies = are.policies; pools = are.pools; clients = are.clients; schedules = are.schedules; groups = behind-push (IsGroupIf lists.schedules lists.clients) [] lists.groups group are.groups is.0 }

-- resources that were read are all of those by their kinds, in their order
abbrev AreGathered : List Resource → Type 0
AreGathered all = (all ≡ all_of (gathered all)) × AreKinds (gathered all)

gathered-more : (before more : List Resource) → AreGathered before → AllBehind IsBehind before more → AreGathered (before ++ more)
gathered-more before [] are each = subst AreGathered (sym (append-nil before)) are
gathered-more before (resource ∷ more) are each =
    let lists = gathered before in
    let pushed : AreGathered (before ++ resource ∷ []) = (
      ap (λ (xs : List Resource). xs ++ resource ∷ []) are.0 ∙ sym (all-push lists resource each.0.1) ∙ ap all_of (sym (gathered-push before resource)),
      subst AreKinds (sym (gathered-push before resource)) (kinds-push lists resource are.1 each.0),
    ) in
    subst AreGathered (append_assoc before (resource ∷ []) more) (gathered-more (before ++ resource ∷ []) more pushed each.1)

gathered-all : (all : List Resource) → AllBehind IsBehind [] all → AreGathered all
gathered-all all each = gathered-more [] all (refl, record { policies = tt; pools = tt; clients = tt; schedules = tt; groups = tt }) each

-- ---- resources in their order are allowed

behind-append : {X : Type 0} (P : List X → X → Type 0) (before xs ys : List X) → AllBehind P before xs → AllBehind P (before ++ xs) ys → AllBehind P before (xs ++ ys)
behind-append {X = X} P before [] ys each others = subst (λ (zs : List X). AllBehind P zs ys) (append-nil before) others
behind-append {X = X} P before (x ∷ xs) ys each others =
    (each.0, behind-append P (before ++ x ∷ []) xs ys each.1 (subst (λ (zs : List X). AllBehind P zs ys) (sym (append_assoc before (x ∷ []) xs)) others))

-- resources of one kind behind those of the kinds before
segment : {X : Type 0} (make : X → Resource) (at : List X → ResourceLists) (Is : List X → X → Type 0)
    → ((ys : List X) (x : X) → Is ys x → IsNextResource (at ys) (make x)) → ((ys : List X) (x : X) → with_resource (at ys) (make x) ≡ at (ys ++ x ∷ []))
    → (before : List Resource) (ys xs : List X) → gathered before ≡ at ys → AllBehind Is ys xs
    → AllBehind IsBehind before (map make xs) × (gathered (before ++ map make xs) ≡ at (ys ++ xs))
segment make at Is next put before ys [] so_far each = (tt, ap gathered (append-nil before) ∙ so_far ∙ ap at (sym (append-nil ys)))
segment {X = X} make at Is next put before ys (x ∷ xs) so_far each =
    let here : IsBehind before (make x) = subst (λ (lists : ResourceLists). IsNextResource lists (make x)) (sym so_far) (next ys x each.0) in
    let on = gathered-push before (make x) ∙ ap (λ (lists : ResourceLists). with_resource lists (make x)) so_far ∙ put ys x in
    let rest = segment make at Is next put (before ++ make x ∷ []) (ys ++ x ∷ []) xs on each.1 in
    ((here, rest.0), ap gathered (sym (append_assoc before (make x ∷ []) (map make xs))) ∙ rest.1 ∙ ap at (append_assoc ys (x ∷ []) xs))

in-order : (lists : ResourceLists) → AreKinds lists → AllBehind IsBehind [] (all_of lists) × (gathered (all_of lists) ≡ lists)
in-order lists are =
    let p = policies_of lists in
    let first = segment (λ x. resources.Policy x) (λ ys. record { policies = ys; pools = []; clients = []; schedules = []; groups = [] }) IsPolicyIf (λ ys x is. (is, refl)) (λ ys x. refl)
    [] [] lists.policies refl are.policies in
    let second = segment (λ x. resources.Pool x) (λ ys. record { policies = lists.policies; pools = ys; clients = []; schedules = []; groups = [] }) IsPoolIf (λ ys x is. (is, refl)) (λ ys x. refl)
    p [] lists.pools first.1 are.pools in
    let third = segment (λ x. resources.Client x) (λ ys. record { policies = lists.policies; pools = lists.pools; clients = ys; schedules = []; groups = [] }) (IsClientIf lists.policies) (λ ys x is. (is, refl)) (λ ys x. refl)
    (to_pools lists) [] lists.clients second.1 are.clients in
    let fourth = segment (λ x. resources.Schedule x) (λ ys. record { policies = lists.policies; pools = lists.pools; clients = lists.clients; schedules = ys; groups = [] }) IsScheduleIf (λ ys x is. (is, refl)) (λ ys x. refl)
    (to_clients lists) [] lists.schedules third.1 are.schedules in
    let fifth = segment (λ x. resources.Group x) (λ ys. record { policies = lists.policies; pools = lists.pools; clients = lists.clients; schedules = lists.schedules; groups = ys }) (IsGroupIf lists.schedules lists.clients) (λ ys x is. (is, refl)) (λ ys x. refl)
    (to_schedules lists) [] lists.groups fourth.1 are.groups in
    let to_second = behind-append IsBehind [] p (map (λ x. resources.Pool x) lists.pools) first.0 second.0 in
    let to_third = behind-append IsBehind [] (to_pools lists) (map (λ x. resources.Client x) lists.clients) to_second third.0 in
    let to_fourth = behind-append IsBehind [] (to_clients lists) (map (λ x. resources.Schedule x) lists.schedules) to_third fourth.0 in
    (behind-append IsBehind [] (to_schedules lists) (map (λ x. resources.Group x) lists.groups) to_fourth fifth.0, fifth.1)

-- ---- how they are spelled

all-count : (lists : ResourceLists) → length (all_of lists) ≡ count_of lists
all-count lists = simp (length-append, length-map) refl

all-text : (lists : ResourceLists) → many_text (all_of lists) ≡ lists_text lists
all-text lists = rw (all-count lists) (simp (flat_map-append, flat_map-map, append_assoc) refl)

-- ---- all of them

found-part : (bytes : List ℕ) (part : Part (List Resource)) → Judged many_at bytes part (λ all rest. Took bytes (many_text all) rest × IsListOf (λ n. (0 ≤ n) × (n ≤ max_count)) IsBehind all)
    → Judged lists_at bytes (by_kinds part) (λ lists rest. Took bytes (lists_text lists) rest × AreListsIf lists)
found-part bytes (Ok x) found =
    let are = gathered-all x.0 found.1.1 in
    let lists = gathered x.0 in (
      subst (λ (text : List ℕ). Took bytes text x.1) (ap many_text are.0 ∙ all-text lists) found.0,
      (are.1, subst (λ (n : ℕ). n ≤ max_count) (ap (λ (all : List Resource). length all) are.0 ∙ all-count lists) found.1.0.1),
    )
found-part bytes (Err behind) found = record {
  before = found.before;
  bad = found.bad;
  parts = found.parts;
  size = found.size;
  whole = lists-same found.before ∙ ap by_kinds found.whole;
}

pub lists-read : Reads lists_at lists_text AreListsIf
lists-read = record {
  found = λ bytes fits.
      subst (λ (part : Part ResourceLists). Judged lists_at bytes part (λ lists rest. Took bytes (lists_text lists) rest × AreListsIf lists)) (sym (lists-same bytes)) (found-part bytes (many_at bytes) (many-read.found bytes fits));
  again = λ lists rest is.
      let order = in-order lists is.0 in
      lists-same (lists_text lists ++ rest)
      ∙ ap (λ (text : List ℕ). by_kinds (many_at (text ++ rest))) (sym (all-text lists))
      ∙ ap by_kinds (many-read.again (all_of lists) rest ((omega arith, subst (λ (n : ℕ). n ≤ max_count) (sym (all-count lists)) is.1), order.0))
      ∙ ap (λ (one : ResourceLists). Ok (one, rest)) order.1;
}
