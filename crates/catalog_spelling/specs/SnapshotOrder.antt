-- Resources in the order of their names.
use Rattle.std.specs.Ordering.{nat_cmp}
use Rattle.std.specs.Cmp.Lexicographic.{slice_cmp}
use Rattle.room_base.specs.Ordered.{Ascends}
use Rattle.catalog_change.specs.Resources.{
  client_name,
  group_name,
  policy_name,
  pool_name,
  schedule_name,
}
use Rattle.catalog_spelling.specs.declared.snapshot_fields.ResourceLists.{ResourceLists}

-- the names of each kind ascend
pub record AreInOrder (lists : ResourceLists) : Type 0 where
  pub policies : Ascends (slice_cmp nat_cmp) policy_name lists.policies
  pub pools : Ascends (slice_cmp nat_cmp) pool_name lists.pools
  pub clients : Ascends (slice_cmp nat_cmp) client_name lists.clients
  pub schedules : Ascends (slice_cmp nat_cmp) schedule_name lists.schedules
  pub groups : Ascends (slice_cmp nat_cmp) group_name lists.groups
