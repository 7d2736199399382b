use Rattle.std.proofs.Common.{◌≡◌, ◌-◌, []}
use Rattle.catalog_spelling.specs.Lists.{items_at}
use Rattle.snapshot_reading.proofs.item.read_items.Given as goal

abbrev pub invariant-loop : goal.invariant-loop
invariant-loop g l = items_at (g.R.ReadItem.at l.reader) (l.count - l.counter) l.items.items l.rest ≡ items_at (g.R.ReadItem.at l.reader) l.count [] l.bytes
