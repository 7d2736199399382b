-- How much room there is for resources.
use Rattle.std.specs.Prelude.{◌+◌, ◌≤◌, List, length, filter_map}
use Rattle.catalog_change.specs.declared.resource.Resource.{Resource}
use Rattle.resource_lists.specs.Lists.{ResourceRoom}
use Rattle.resource_lists.specs.Kinds.{as_client, as_group, as_policy, as_pool, as_schedule}

-- there is room for these
pub record HasRoomFor (room : ResourceRoom) (new : List Resource) : Type 0 where
  pub policies : length (filter_map as_policy new) ≤ room.policies
  pub pools : length (filter_map as_pool new) ≤ room.pools
  pub clients : length (filter_map as_client new) ≤ room.clients
  pub schedules : length (filter_map as_schedule new) ≤ room.schedules
  pub groups : length (filter_map as_group new) ≤ room.groups

-- the second room is no less, where these were put into the first
pub record KeepsRoomBeside (new : List Resource) (before after : ResourceRoom) : Type 0 where
  pub policies : before.policies ≤ after.policies + length (filter_map as_policy new)
  pub pools : before.pools ≤ after.pools + length (filter_map as_pool new)
  pub clients : before.clients ≤ after.clients + length (filter_map as_client new)
  pub schedules : before.schedules ≤ after.schedules + length (filter_map as_schedule new)
  pub groups : before.groups ≤ after.groups + length (filter_map as_group new)
