use Rattle.std.proofs.Common.{◌≡◌, ◌++◌, map, length}
use Rattle.std.specs.Vec.Iter.{into_iter_items, into_iter_len}
use Rattle.catalog_spelling.specs.Storing.{set_of}
use Rattle.snapshot_reading.proofs.decode.stored.Given as goal

abbrev pub invariant-loop-listed : goal.invariant-loop-listed
invariant-loop-listed l = record {
  left : l.yielded ++ into_iter_items l.listed-iterator ≡ l.fn.records.items;
  len : into_iter_len l.listed-iterator ≡ length (into_iter_items l.listed-iterator);
  records : l.db.records ≡ map (λ listed. listed.row) l.yielded;
  volumes : l.db.volumes ≡ l.fn.db.volumes;
  index : l.index.sets ≡ map set_of l.yielded;
}
