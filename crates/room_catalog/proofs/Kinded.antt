-- The resources of one kind among others.
use Rattle.std.proofs.Common.{◌≡◌, ◌≢◌, ℕ, List, [], ◌∷◌, Option, Some, None, refl, sym, ap, ◌∙◌}
use Rattle.std.specs.Prelude.{filter_map}
use Rattle.std.specs.List.{AllByRecursion, cons_option}
use Rattle.room_rules.specs.declared.group.Group.{Group}
use Rattle.room_rules.specs.declared.policy.Policy.{Policy}
use Rattle.room_rules.specs.declared.pool.Pool.{Pool}
use Rattle.room_rules.specs.declared.schedule.Schedule.{Schedule}
use Rattle.catalog_change.specs.declared.resource.Client.{Client}
use Rattle.catalog_change.specs.declared.resource.Resource.{Resource}
use Rattle.catalog_change.specs.declared.resource.Resource.TheVariants as resources
use Rattle.catalog_change.specs.declared.resource.ResourceKind.{ResourceKind}
use Rattle.catalog_change.specs.declared.resource.ResourceKind.TheVariants as kinds
use Rattle.catalog_change.specs.Resources.{client_name, group_name, kind_of, name_of, policy_name, pool_name, schedule_name}
use Rattle.resource_lists.specs.Adding.{AreDistinct, IsNamed}
use Rattle.resource_lists.specs.Kinds.{as_client, as_group, as_policy, as_pool, as_schedule}
use Rattle.room_catalog.proofs.Found.{Apart}

module _ {X : Type 0} (kind : ResourceKind) (pick : Resource → Option X) (name : X → List ℕ) (says : (r : Resource) (x : X) → pick r ≡ Some x → (kind_of r ≡ kind) × (name_of r ≡ name x)) where
  apart_from : (r : Resource) (x : X) → pick r ≡ Some x → (others : List Resource) → AllByRecursion (λ other. ¬ IsNamed (kind_of r) (name_of r) other) others → AllByRecursion (λ y. name y ≢ name x) (filter_map pick others)
  apart_from r x is [] each = tt
  apart_from r x is (other ∷ others) each = by (pick other) refl (apart_from r x is others each.1)
    where
      by : (picked : Option X) → pick other ≡ picked → AllByRecursion (λ y. name y ≢ name x) (filter_map pick others) → AllByRecursion (λ y. name y ≢ name x) (cons_option picked (filter_map pick others))
      by None none rest = rest
      by (Some y) some rest =
          let one = says r x is in
          let two = says other y some in
          ((λ same. each.0 (two.0 ∙ sym one.0, two.1 ∙ same ∙ sym one.1)), rest)

  pub apart_of : (new : List Resource) → AreDistinct new → Apart name (filter_map pick new)
  apart_of [] distinct = tt
  apart_of (r ∷ others) distinct = by (pick r) refl (apart_of others distinct.1)
    where
      by : (picked : Option X) → pick r ≡ picked → Apart name (filter_map pick others) → Apart name (cons_option picked (filter_map pick others))
      by None none rest = rest
      by (Some x) some rest = (apart_from r x some others distinct.0, rest)

pub policy_says : (r : Resource) (x : Policy) → as_policy r ≡ Some x → (kind_of r ≡ kinds.Policy) × (name_of r ≡ policy_name x)
policy_says (resources.Policy y) x is = let same : y ≡ x = cc in (refl, ap policy_name same)
policy_says (resources.Pool y) x is = cc
policy_says (resources.Client y) x is = cc
policy_says (resources.Schedule y) x is = cc
policy_says (resources.Group y) x is = cc

pub pool_says : (r : Resource) (x : Pool) → as_pool r ≡ Some x → (kind_of r ≡ kinds.Pool) × (name_of r ≡ pool_name x)
pool_says (resources.Policy y) x is = cc
pool_says (resources.Pool y) x is = let same : y ≡ x = cc in (refl, ap pool_name same)
pool_says (resources.Client y) x is = cc
pool_says (resources.Schedule y) x is = cc
pool_says (resources.Group y) x is = cc

pub client_says : (r : Resource) (x : Client) → as_client r ≡ Some x → (kind_of r ≡ kinds.Client) × (name_of r ≡ client_name x)
client_says (resources.Policy y) x is = cc
client_says (resources.Pool y) x is = cc
client_says (resources.Client y) x is = let same : y ≡ x = cc in (refl, ap client_name same)
client_says (resources.Schedule y) x is = cc
client_says (resources.Group y) x is = cc

pub schedule_says : (r : Resource) (x : Schedule) → as_schedule r ≡ Some x → (kind_of r ≡ kinds.Schedule) × (name_of r ≡ schedule_name x)
schedule_says (resources.Policy y) x is = cc
schedule_says (resources.Pool y) x is = cc
schedule_says (resources.Client y) x is = cc
schedule_says (resources.Schedule y) x is = let same : y ≡ x = cc in (refl, ap schedule_name same)
schedule_says (resources.Group y) x is = cc

pub group_says : (r : Resource) (x : Group) → as_group r ≡ Some x → (kind_of r ≡ kinds.Group) × (name_of r ≡ group_name x)
group_says (resources.Policy y) x is = cc
group_says (resources.Pool y) x is = cc
group_says (resources.Client y) x is = cc
group_says (resources.Schedule y) x is = cc
group_says (resources.Group y) x is = let same : y ≡ x = cc in (refl, ap group_name same)
