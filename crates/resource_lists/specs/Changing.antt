-- What resources that are added or dropped make of the lists.
use Rattle.std.specs.Prelude.{ℕ, List, filter_map}
use Rattle.catalog_change.specs.declared.resource.Resource.{Resource}
use Rattle.catalog_change.specs.declared.resource.ResourceKind.{ResourceKind}
use Rattle.catalog_change.specs.declared.resource.ResourceKind.TheVariants as kinds
use Rattle.catalog_change.specs.Resources.{
  client_name,
  group_name,
  policy_name,
  pool_name,
  schedule_name,
}
use Rattle.resource_lists.specs.Lists.{ResourceLists}
use Rattle.resource_lists.specs.Kinds.{
  as_client,
  as_group,
  as_policy,
  as_pool,
  as_schedule,
  put_each,
  remove_named,
}

abbrev pub with_each : List Resource → ResourceLists → ResourceLists
with_each new lists = record {
  policies = put_each policy_name (filter_map as_policy new) lists.policies;
  pools = put_each pool_name (filter_map as_pool new) lists.pools;
  clients = put_each client_name (filter_map as_client new) lists.clients;
  schedules = put_each schedule_name (filter_map as_schedule new) lists.schedules;
  groups = put_each group_name (filter_map as_group new) lists.groups;
}

abbrev pub without_named : ResourceKind → List ℕ → ResourceLists → ResourceLists
without_named kinds.Policy name lists =
    record lists { policies = remove_named policy_name name lists.policies }
without_named kinds.Pool name lists =
    record lists { pools = remove_named pool_name name lists.pools }
without_named kinds.Client name lists =
    record lists { clients = remove_named client_name name lists.clients }
without_named kinds.Schedule name lists =
    record lists { schedules = remove_named schedule_name name lists.schedules }
without_named kinds.Group name lists =
    record lists { groups = remove_named group_name name lists.groups }
