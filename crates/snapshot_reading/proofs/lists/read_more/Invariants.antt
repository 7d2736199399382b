use Rattle.std.proofs.Common.{◌≡◌, ◌-◌}
use Rattle.catalog_spelling.specs.SnapshotOrder.{AreInOrder}
use Rattle.catalog_spelling.specs.SnapshotResources.{more_at, no_resources}
use Rattle.snapshot_reading.proofs.lists.read_more.Given as goal

abbrev pub invariant-loop : goal.invariant-loop
invariant-loop l = record {
  so_far : more_at (l.count - l.counter) l.lists l.rest ≡ more_at l.count no_resources l.bytes;
  order : AreInOrder l.lists;
}
