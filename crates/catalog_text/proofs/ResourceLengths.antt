-- How long resources are.
use Rattle.std.proofs.Common.{◌≡◌, ℕ, ◌+◌, ◌*◌, ◌≤◌, ◌<◌, ◌^◌, List, [], ◌∷◌, length, refl, ◌∙◌, ap, arith}
use Rattle.std.specs.List.{flat_map, AllByRecursion}
use Rattle.std.proofs.lemmas.List.{length-append}
use Rattle.std.proofs.lemmas.List.Concat.{flat_map-cons}
use Rattle.room_rules.specs.declared.group.Group.{Group}
use Rattle.room_rules.specs.declared.group.Member.{Member}
use Rattle.room_rules.specs.declared.policy.Policy.{Policy}
use Rattle.room_rules.specs.declared.pool.Pool.{Pool}
use Rattle.room_rules.specs.declared.schedule.Override.{Override}
use Rattle.room_rules.specs.declared.schedule.Schedule.{Schedule}
use Rattle.save_stream.specs.Spelling.{IsNameTo, short_text}
use Rattle.catalog_change.specs.declared.resource.Client.{Client}
use Rattle.catalog_change.specs.declared.resource.Resource.{Resource}
use Rattle.catalog_change.specs.declared.resource.Resource.TheVariants as resources
use Rattle.catalog_change.specs.Resources.{IsResource, IsMember}
use Rattle.catalog_spelling.specs.Fields.{byte_text}
use Rattle.catalog_spelling.specs.Resources.{member_text, override_text, resource_text}
use Rattle.catalog_text.proofs.Lengths.{u16_length, u32_length, length_override}

-- items of at most so many bytes
most-items : {X : Type 0} (text : X → List ℕ) (Is : X → Type 0) (most : ℕ) → ((x : X) → Is x → length (text x) ≤ most) → (xs : List X) → AllByRecursion Is xs → length (flat_map text xs) ≤ length xs * most
most-items text Is most bound [] each = omega arith
most-items text Is most bound (x ∷ xs) each =
    let more = most-items text Is most bound xs each.1 in
    let one = bound x each.0 in
    let parts : length (flat_map text (x ∷ xs)) ≡ length (text x) + length (flat_map text xs) = ap (λ (t : List ℕ). length t) (flat_map-cons text x xs) ∙ length-append (text x) (flat_map text xs) in
    grind (arith, parts)

-- items of so many bytes each
pub same-items : {X : Type 0} (text : X → List ℕ) (size : ℕ) → ((x : X) → length (text x) ≡ size) → (xs : List X) → length (flat_map text xs) ≡ length xs * size
same-items text size each [] = omega arith
same-items text size each (x ∷ xs) =
    let more = same-items text size each xs in
    let parts : length (flat_map text (x ∷ xs)) ≡ length (text x) + length (flat_map text xs) = ap (λ (t : List ℕ). length t) (flat_map-cons text x xs) ∙ length-append (text x) (flat_map text xs) in
    let one = each x in
    grind (arith, parts)

levels-length : (levels : List ℕ) → length (flat_map byte_text levels) ≡ length levels
levels-length levels = same-items byte_text 1 (λ x. refl) levels ∙ omega arith

overrides-length : (overrides : List Override) → length (flat_map override_text overrides) ≡ length overrides * 5
overrides-length overrides = same-items override_text 5 length_override overrides

pub length_policy : (policy : Policy) → length (resource_text (resources.Policy policy)) ≡ 7 + length policy.name
length_policy policy = simp (length-append, u32_length) (omega arith)

pub length_pool : (pool : Pool)
    → length (resource_text (resources.Pool pool))
    ≡ 10 + length pool.name + length (flat_map short_text pool.groups) + length (flat_map short_text pool.clients) + length (flat_map short_text pool.sets) + length pool.levels
length_pool pool = simp (length-append, u16_length, levels-length) (omega arith)

pub length_client : (client : Client) → length (resource_text (resources.Client client)) ≡ 4 + length client.name + length client.browse + length client.retention
length_client client = simp (length-append) (omega arith)

pub length_schedule : (schedule : Schedule) → length (resource_text (resources.Schedule schedule)) ≡ 5 + length schedule.name + length schedule.actions + 5 * length schedule.overrides
length_schedule schedule = simp (length-append, levels-length, overrides-length) (omega arith)

pub length_group : (group : Group) → length (resource_text (resources.Group group)) ≡ 5 + length group.name + length group.schedule + length (flat_map member_text group.members)
length_group group = simp (length-append, u16_length) (omega arith)

names-bound : (most : ℕ) (names : List (List ℕ)) → AllByRecursion (IsNameTo most) names → length (flat_map short_text names) ≤ length names * (1 + most)
names-bound most names each = most-items short_text (IsNameTo most) (1 + most) (λ name is. omega (arith, is.0.1)) names each

members-bound : (members : List Member) → AllByRecursion IsMember members → length (flat_map member_text members) ≤ length members * 321
members-bound members each =
    most-items member_text IsMember 321 (λ member is. omega (arith, is.client.0.1, is.set.0.1, length-append (short_text member.client) (short_text member.set))) members each

pub bound_resource : (resource : Resource) → IsResource resource → length (resource_text resource) < 2 ^ 24
bound_resource (resources.Policy policy) is = omega (arith, length_policy policy, is.name.0.1)
bound_resource (resources.Pool pool) is =
    omega (
      arith,
      length_pool pool,
      is.name.0.1,
      is.groups.count,
      is.clients.count,
      is.sets.count,
      is.levels,
      names-bound 64 pool.groups is.groups.each,
      names-bound 64 pool.clients is.clients.each,
      names-bound 255 pool.sets is.sets.each,
    )
bound_resource (resources.Client client) is = omega (arith, length_client client, is.name.0.1, is.browse.0.1, is.retention.0.1)
bound_resource (resources.Schedule schedule) is = omega (arith, length_schedule schedule, is.name.0.1, is.actions, is.overrides.count)
bound_resource (resources.Group group) is =
    omega (arith, length_group group, is.name.0.1, is.schedule.0.1, is.members.count, members-bound group.members is.members.each)
