use Rattle.std.proofs.Common.{◌≡◌, ◌<◌, ◌+◌, ◌++◌, ℕ, take, length, get_or, vec_len}
use Rattle.std.specs.Prelude.{vec_capacity}
use Rattle.std.specs.List.{flat_map}
use Rattle.snapshot_text.proofs.put_item.put_items.Given as goal

abbrev pub invariant-loop-item : goal.invariant-loop-item
invariant-loop-item g l =
    let text = g.P.PutItem.text l.writer in
    record {
      items : l.into.items ≡ l.fn.into.items ++ flat_map text (take l.item-index l.items);
      len : vec_len l.into ≡ vec_len l.fn.into + length (flat_map text (take l.item-index l.items));
      capacity : vec_capacity l.into ≡ vec_capacity l.fn.into;
      fit : (k : ℕ) (d : _) → k < l.item-index → g.P.PutItem.Fits l.writer (get_or l.items k d);
    }
