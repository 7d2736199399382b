use Rattle.std.proofs.Common.{◌≡◌, ◌++◌, [], length}
use Rattle.std.specs.Vec.Iter.{into_iter_items, into_iter_len}
use Rattle.snapshot_reading.proofs.decode.db_of.Given as goal

abbrev pub invariant-loop-volume : goal.invariant-loop-volume
invariant-loop-volume l = record {
  left : l.yielded ++ into_iter_items l.volume-iterator ≡ l.fn.volumes.items;
  len : into_iter_len l.volume-iterator ≡ length (into_iter_items l.volume-iterator);
  volumes : l.db.volumes ≡ l.yielded;
  records : l.db.records ≡ [];
}
