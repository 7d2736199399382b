use Rattle.std.proofs.Common.{[]}
use Rattle.std.proofs.lemmas.Result.{err_from_is_err_and}
use Rattle.catalog_spelling.specs.Lists.{items_at}
use Rattle.catalog_text.proofs.Loops.{goes_on, ends, is_done}
use Rattle.catalog_text.proofs.list.read_items.Goals as goal

pub returns-in_err-item : goal.returns-in_err-item
returns-in_err-item g c =
    let at = g.F.Format.at in
    let p = err_from_is_err_and c.from_residual-in_err-item.result c.from_residual-in_err-item.ensures.1 in
    rw (p.1, p.2) (ends c.in_err-item.field-0.0 at c.args.count c.loop.counter c.loop.items.items c.loop.rest.now (items_at at c.args.count [] c.args.bytes.now) c.loop-test.true (rw c.as_slice.ensures.value at c.in_err-item.ensures) c.loop.invariant)

pub loop-preserved : goal.loop-preserved
loop-preserved g c =
    let at = g.F.Format.at in
    rw c.in_ok-push.ensures.items (goes_on at c.args.count c.loop.counter c.loop.items.items c.loop.rest.now c.in_ok-item.item c.in_ok-item.after.now (items_at at c.args.count [] c.args.bytes.now) c.loop-test.true (rw c.as_slice.ensures.value at c.in_ok-item.ensures) c.loop.invariant)

pub returns : goal.returns
returns g c = rw c.of.ensures (is_done g.F.Format.at c.args.count c.loop.counter c.loop.items.items c.loop.rest.now (items_at g.F.Format.at c.args.count [] c.args.bytes.now) c.loop-test.false c.loop.invariant)
