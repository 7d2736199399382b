use Rattle.std.proofs.lemmas.Result.{err_from_is_err_and}
use Rattle.catalog_spelling.specs.SnapshotResources.{more_at, no_resources}
use Rattle.snapshot_reading.proofs.More.{goes_on, ends, is_done}
use Rattle.snapshot_reading.proofs.lists.read_more.Goals as goal

pub returns-in_err-more-clause-read : goal.returns-in_err-more-clause-read
returns-in_err-more-clause-read c =
    let p = err_from_is_err_and c.from_residual.result c.from_residual.ensures.1 in
    rw (p.1, p.2) (ends c.in_err-more.field-0.0 c.args.count c.loop.counter c.loop.lists c.loop.rest.now (more_at c.args.count no_resources c.args.bytes.now) c.loop-test.true c.in_err-more.ensures.read c.loop.invariant.so_far)

pub loop-preserved : goal.loop-preserved
loop-preserved c = record {
  so_far = goes_on c.args.count c.loop.counter c.loop.lists c.loop.rest.now c.in_ok-more.more c.in_ok-more.after.now (more_at c.args.count no_resources c.args.bytes.now) c.loop-test.true c.in_ok-more.ensures.read c.loop.invariant.so_far;
  order = c.in_ok-more.ensures.order;
}

pub returns-clause-read : goal.returns-clause-read
returns-clause-read c = is_done c.args.count c.loop.counter c.loop.lists c.loop.rest.now (more_at c.args.count no_resources c.args.bytes.now) c.loop-test.false c.loop.invariant.so_far
