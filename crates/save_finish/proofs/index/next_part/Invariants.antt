use Rattle.std.proofs.Common.{◌≡◌, ◌≤◌, take, drop}
use Rattle.std.specs.Prelude.{vec_capacity}
use Rattle.std.specs.Vec.Iter.{into_iter_items}
use Rattle.catalog_change.specs.Changes.{max_part}
use Rattle.save_finish.proofs.index.next_part.Given as goal

abbrev pub invariant-loop-place : goal.invariant-loop-place
invariant-loop-place l = record {
  taken : l.part.items ≡ take l._place (into_iter_items l.fn.entries);
  rest : into_iter_items l.entries ≡ drop l._place (into_iter_items l.fn.entries);
  within : l._place ≤ max_part;
  room : max_part ≤ vec_capacity l.part;
}
