use Rattle.std.proofs.Common.{[], List, ℕ}
use Rattle.std.proofs.lemmas.Result.{err_from_is_err_and}
use Rattle.room_rules.specs.declared.group.Member.{Member}
use Rattle.catalog_spelling.specs.Reading.{Part}
use Rattle.catalog_spelling.specs.Lists.{items_at}
use Rattle.catalog_text.proofs.Loops.{goes_on, ends, is_done}
use Rattle.catalog_spelling.specs.SnapshotResources.{member_at}
use Rattle.snapshot_reading.proofs.resource_reading.read_each_member.Goals as goal

pub returns-in_err-item : goal.returns-in_err-item
returns-in_err-item c =
    let at : List Member → List ℕ → Part Member = λ before. member_at c.args.clients.now in
    let p = err_from_is_err_and c.from_residual-in_err-item.result c.from_residual-in_err-item.ensures.1 in
    rw (p.1, p.2) (ends c.in_err-item.field-0.0 at c.args.count c.loop.counter c.loop.items.items c.loop.rest.now (items_at at c.args.count [] c.args.bytes.now) c.loop-test.true c.in_err-item.ensures c.loop.invariant)

pub loop-preserved : goal.loop-preserved
loop-preserved c =
    let at : List Member → List ℕ → Part Member = λ before. member_at c.args.clients.now in
    rw c.in_ok-push.ensures.items (goes_on at c.args.count c.loop.counter c.loop.items.items c.loop.rest.now c.in_ok-item.item c.in_ok-item.after.now (items_at at c.args.count [] c.args.bytes.now) c.loop-test.true c.in_ok-item.ensures c.loop.invariant)

pub returns : goal.returns
returns c =
    let at : List Member → List ℕ → Part Member = λ before. member_at c.args.clients.now in
    rw c.of.ensures (is_done at c.args.count c.loop.counter c.loop.items.items c.loop.rest.now (items_at at c.args.count [] c.args.bytes.now) c.loop-test.false c.loop.invariant)
