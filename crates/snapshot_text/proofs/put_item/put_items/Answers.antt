use Rattle.std.proofs.Common.{◌≡◌, length, get_or, ap, arith}
use Rattle.std.proofs.lemmas.List.Folds.{length-flat_map-take}
use Rattle.snapshot_text.proofs.put_item.put_items.Goals as goal

pub put-requires-clause-room : goal.put-requires-clause-room
put-requires-clause-room g c =
    let text = g.P.PutItem.text c.args.writer.now in
    let item = c.item-item.result in
    let within = length-flat_map-take text c.args.items.now c.loop-item.item-index item c.loop-item-test.true in
    let same : length (text item) ≡ length (text (get_or c.args.items.now c.loop-item.item-index item)) = ap (λ (x : _). length (text x)) c.item-item.is in
    omega (arith, within, same, c.requires.room, c.loop-item.invariant.len, c.loop-item.invariant.capacity)
