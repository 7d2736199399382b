-- What it says that a resource is there, or has a name.
use Rattle.std.proofs.Common.{◌≡◌, ◌≢◌, ◌⊎◌, true, false, ℕ, List, Option, Some, None, refl, sym, subst, ◌∙◌, inl, inr}
use Rattle.std.specs.Prelude.{is_some}
use Rattle.std.specs.List.{Any, list_any}
use Rattle.std.specs.Cmp.Lexicographic.{same_text}
use Rattle.std.proofs.lemmas.Bool.{and_parts, or_cases, false≢true, true≢false}
use Rattle.std.proofs.lemmas.Cmp.{nat_list_cmp_total, nat_list_eq_equiv}
use Rattle.std.proofs.lemmas.List.Folds.{Any-from_list_any}
use Rattle.room_base.proofs.OrderedLaws.{each_found, found_has_key}
use Rattle.catalog_change.specs.declared.resource.Resource.{Resource}
use Rattle.catalog_change.specs.declared.resource.ResourceKind.{ResourceKind}
use Rattle.catalog_change.specs.declared.resource.ResourceKind.TheVariants as kinds
use Rattle.catalog_change.specs.Catalogues.{AreNamed, Catalogue, HasResources}
use Rattle.catalog_change.specs.Resources.{IsClient, IsGroup, IsPolicy, IsPool, IsSchedule, IsShortName, client_name, group_name, kind_of, name_of, policy_name, pool_name, schedule_name}
use Rattle.resource_lists.specs.Adding.{HasResource, IsNamed, IsThere}
use Rattle.resource_lists.specs.Kinds.{find_named, is_kind}
use Rattle.resource_lists.specs.Lists.{ResourceLists}
use Rattle.room_catalog.specs.Held.{resources_of}
use Rattle.room_catalog.proofs.Found.{same_name}
use Rattle.room_resources.specs.Called.{has, is_same}
use Rattle.room_resources.specs.Defining.{goes_by, is_there}

-- ---- texts

pub is_other : (one other : List ℕ) → is_same one other ≡ false → one ≢ other
is_other one other differs same =
    let F : List ℕ → Type 0 = λ text. is_same one text ≡ false in
    true≢false (sym (nat_list_eq_equiv.refl one) ∙ subst F (sym same) differs)

-- ---- kinds

pub one_kind : (kind other : ResourceKind) → is_kind kind other ≡ true → kind ≡ other
one_kind kinds.Policy kinds.Policy is = refl
one_kind kinds.Pool kinds.Pool is = refl
one_kind kinds.Client kinds.Client is = refl
one_kind kinds.Schedule kinds.Schedule is = refl
one_kind kinds.Group kinds.Group is = refl
one_kind kinds.Policy kinds.Pool is = absurd (false≢true is)
one_kind kinds.Policy kinds.Client is = absurd (false≢true is)
one_kind kinds.Policy kinds.Schedule is = absurd (false≢true is)
one_kind kinds.Policy kinds.Group is = absurd (false≢true is)
one_kind kinds.Pool kinds.Policy is = absurd (false≢true is)
one_kind kinds.Pool kinds.Client is = absurd (false≢true is)
one_kind kinds.Pool kinds.Schedule is = absurd (false≢true is)
one_kind kinds.Pool kinds.Group is = absurd (false≢true is)
one_kind kinds.Client kinds.Policy is = absurd (false≢true is)
one_kind kinds.Client kinds.Pool is = absurd (false≢true is)
one_kind kinds.Client kinds.Schedule is = absurd (false≢true is)
one_kind kinds.Client kinds.Group is = absurd (false≢true is)
one_kind kinds.Schedule kinds.Policy is = absurd (false≢true is)
one_kind kinds.Schedule kinds.Pool is = absurd (false≢true is)
one_kind kinds.Schedule kinds.Client is = absurd (false≢true is)
one_kind kinds.Schedule kinds.Group is = absurd (false≢true is)
one_kind kinds.Group kinds.Policy is = absurd (false≢true is)
one_kind kinds.Group kinds.Pool is = absurd (false≢true is)
one_kind kinds.Group kinds.Client is = absurd (false≢true is)
one_kind kinds.Group kinds.Schedule is = absurd (false≢true is)

-- ---- resources

pub is_had : (lists : ResourceLists) (kind : ResourceKind) (name : List ℕ) → has lists kind name ≡ true → HasResource lists kind name
is_had lists kinds.Policy name is = is
is_had lists kinds.Pool name is = is
is_had lists kinds.Client name is = is
is_had lists kinds.Schedule name is = is
is_had lists kinds.Group name is = is

pub is_not_had : (lists : ResourceLists) (kind : ResourceKind) (name : List ℕ) → has lists kind name ≡ false → ¬ HasResource lists kind name
is_not_had lists kinds.Policy name is there = true≢false (sym there ∙ is)
is_not_had lists kinds.Pool name is there = true≢false (sym there ∙ is)
is_not_had lists kinds.Client name is there = true≢false (sym there ∙ is)
is_not_had lists kinds.Schedule name is there = true≢false (sym there ∙ is)
is_not_had lists kinds.Group name is there = true≢false (sym there ∙ is)

named_so : (kind : ResourceKind) (name : List ℕ) (one : Resource) → goes_by kind name one ≡ true → IsNamed kind name one
named_so kind name one is =
    let (kind_is, name_is) = and_parts (is_kind (kind_of one) kind) (is_same (name_of one) name) is in
    (one_kind (kind_of one) kind kind_is, same_text (name_of one) name (sym name_is))

any_named : (kind : ResourceKind) (name : List ℕ) (new : List Resource) → Any (λ one. goes_by kind name one ≡ true) new → Any (IsNamed kind name) new
any_named kind name new (place, one, inside, at, is) = (place, one, inside, at, named_so kind name one is)

pub are_there : (lists : ResourceLists) (new : List Resource) (kind : ResourceKind) (name : List ℕ) → is_there lists new kind name ≡ true → IsThere lists new kind name
are_there lists new kind name is = by (or_cases (has lists kind name) (list_any (goes_by kind name) new) is)
  where
    by : (has lists kind name ≡ true) ⊎ (list_any (goes_by kind name) new ≡ true) → IsThere lists new kind name
    by (inl there) = inl (is_had lists kind name there)
    by (inr among) = inr (any_named kind name new (Any-from_list_any (goes_by kind name) new among))

-- ---- names

-- what is found by a name has it, and each name in a catalogue is allowed
short_name : {X : Type 0} (name : X → List ℕ) (Is : X → Type 0) (short : (x : X) → Is x → IsShortName (name x)) (items : List X) (wanted : List ℕ) → AreNamed name Is items
    → is_some (find_named name wanted items) ≡ true → IsShortName wanted
short_name {X} name Is short items wanted are there = by (find_named name wanted items) refl there
  where
    by : (found : Option X) → find_named name wanted items ≡ found → is_some found ≡ true → IsShortName wanted
    by None is some = absurd (false≢true some)
    by (Some x) is some =
        let named = same_name (name x) wanted (found_has_key nat_list_cmp_total name wanted x items is) in
        subst IsShortName named (short x (each_found nat_list_cmp_total name Is wanted x items are.each is))

pub names_are_short : (catalogue : Catalogue) (kind : ResourceKind) (name : List ℕ) → HasResources catalogue → has (resources_of catalogue) kind name ≡ true → IsShortName name
names_are_short catalogue kinds.Policy name all is = short_name policy_name IsPolicy (λ one allowed. allowed.name) catalogue.policies name all.policies is
names_are_short catalogue kinds.Pool name all is = short_name pool_name IsPool (λ one allowed. allowed.name) catalogue.pools name all.pools is
names_are_short catalogue kinds.Client name all is = short_name client_name IsClient (λ one allowed. allowed.name) catalogue.clients name all.clients is
names_are_short catalogue kinds.Schedule name all is = short_name schedule_name IsSchedule (λ one allowed. allowed.name) catalogue.schedules name all.schedules is
names_are_short catalogue kinds.Group name all is = short_name group_name IsGroup (λ one allowed. allowed.name) catalogue.groups name all.groups is
