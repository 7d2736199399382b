-- How long resources are: never so long that the number of their bytes has no room.
use Rattle.std.proofs.Common.{◌≡◌, ℕ, ◌+◌, ◌*◌, ◌<◌, ◌^◌, length, ◌∙◌, arith}
use Rattle.std.specs.Io.Iter.{u64_saturate}
use Rattle.std.specs.List.{flat_map}
use Rattle.room_rules.specs.declared.group.Group.{Group}
use Rattle.room_rules.specs.declared.policy.Policy.{Policy}
use Rattle.room_rules.specs.declared.pool.Pool.{Pool}
use Rattle.room_rules.specs.declared.schedule.Schedule.{Schedule}
use Rattle.save_stream.specs.Spelling.{short_text}
use Rattle.catalog_change.specs.declared.resource.Client.{Client}
use Rattle.catalog_change.specs.declared.resource.Resource.TheVariants as resources
use Rattle.catalog_change.specs.Resources.{IsPolicy, IsPool, IsClient, IsSchedule, IsGroup}
use Rattle.catalog_spelling.specs.Resources.{resource_text, member_text}
use Rattle.catalog_text.proofs.ResourceLengths.{bound_resource, length_policy, length_pool, length_client, length_schedule, length_group}

small : (n : ℕ) → n < 2 ^ 24 → u64_saturate n ≡ n
small n is = omega arith

pub size_policy : (policy : Policy) → IsPolicy policy → u64_saturate (length (resource_text (resources.Policy policy))) ≡ 7 + length policy.name
size_policy policy is = small _ (bound_resource (resources.Policy policy) is) ∙ length_policy policy

pub size_pool : (pool : Pool) → IsPool pool → u64_saturate (length (resource_text (resources.Pool pool)))
    ≡ 10 + length pool.name + length (flat_map short_text pool.groups) + length (flat_map short_text pool.clients) + length (flat_map short_text pool.sets) + length pool.levels
size_pool pool is = small _ (bound_resource (resources.Pool pool) is) ∙ length_pool pool

pub size_client : (client : Client) → IsClient client → u64_saturate (length (resource_text (resources.Client client))) ≡ 4 + length client.name + length client.browse + length client.retention
size_client client is = small _ (bound_resource (resources.Client client) is) ∙ length_client client

pub size_schedule : (schedule : Schedule) → IsSchedule schedule → u64_saturate (length (resource_text (resources.Schedule schedule))) ≡ 5 + length schedule.name + length schedule.actions + 5 * length schedule.overrides
size_schedule schedule is = small _ (bound_resource (resources.Schedule schedule) is) ∙ length_schedule schedule

pub size_group : (group : Group) → IsGroup group → u64_saturate (length (resource_text (resources.Group group))) ≡ 5 + length group.name + length group.schedule + length (flat_map member_text group.members)
size_group group is = small _ (bound_resource (resources.Group group) is) ∙ length_group group
