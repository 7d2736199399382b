use Rattle.std.proofs.Common.{◌≡◌, ◌-◌, []}
use Rattle.catalog_spelling.specs.Lists.{items_at}
use Rattle.catalog_spelling.specs.SnapshotResources.{member_at}
use Rattle.snapshot_reading.proofs.resource_reading.read_each_member.Given as goal

abbrev pub invariant-loop : goal.invariant-loop
invariant-loop l = items_at (λ before. member_at l.clients) (l.count - l.counter) l.items.items l.rest ≡ items_at (λ before. member_at l.clients) l.count [] l.bytes
