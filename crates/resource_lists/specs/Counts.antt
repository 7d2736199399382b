-- How many resources of each kind there are.
use Rattle.std.specs.Prelude.{ℕ, ◌+◌, ◌<◌, List, length, filter_map}
use Rattle.catalog_change.specs.declared.resource.Resource.{Resource}
use Rattle.catalog_change.specs.declared.resource.Resource.TheVariants as resources
use Rattle.resource_lists.specs.declared.counts.KindCounts.{KindCounts}
use Rattle.resource_lists.specs.Lists.{ResourceLists}
use Rattle.resource_lists.specs.Kinds.{as_client, as_group, as_policy, as_pool, as_schedule}

abbrev pub counted : List Resource → KindCounts
counted new = record {
  policies = length (filter_map as_policy new);
  pools = length (filter_map as_pool new);
  clients = length (filter_map as_client new);
  schedules = length (filter_map as_schedule new);
  groups = length (filter_map as_group new);
}

abbrev pub counts_of : ResourceLists → KindCounts
counts_of lists = record {
  policies = length lists.policies;
  pools = length lists.pools;
  clients = length lists.clients;
  schedules = length lists.schedules;
  groups = length lists.groups;
}

-- one more of the kind of the resource
abbrev pub with_one : Resource → KindCounts → KindCounts
with_one (resources.Policy policy) counts = record counts { policies = counts.policies + 1 }
with_one (resources.Pool pool) counts = record counts { pools = counts.pools + 1 }
with_one (resources.Client client) counts = record counts { clients = counts.clients + 1 }
with_one (resources.Schedule schedule) counts =
    record counts { schedules = counts.schedules + 1 }
with_one (resources.Group group) counts = record counts { groups = counts.groups + 1 }

pub record AreBelow (most : ℕ) (counts : KindCounts) : Type 0 where
  pub policies : counts.policies < most
  pub pools : counts.pools < most
  pub clients : counts.clients < most
  pub schedules : counts.schedules < most
  pub groups : counts.groups < most
