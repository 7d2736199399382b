use Rattle.std.proofs.Common.{arith}
use Rattle.std.proofs.lemmas.Result.{err_from_is_err_and}
use Rattle.resource_text.specs.Lists.{IsText}
use Rattle.resource_text.proofs.Items.{all_read_at, one_more_at, stops_here, too_many}
use Rattle.resource_text.proofs.lists.words_of.Goals as goal

pub returns-then-most-array : goal.returns-then-most-array
returns-then-most-array g c =
    too_many c.args.key.now (IsText g.W.Word.stands) c.args.most c.args.array.now c.malformed.result c.malformed.ensures (omega arith)

pub returns-in_err-word_in : goal.returns-in_err-word_in
returns-in_err-word_in g c =
    let p = err_from_is_err_and c.from_residual-in_err-word_in.result c.from_residual-in_err-word_in.ensures.1 in
    rw (p.1, p.2) (stops_here c.args.key.now (IsText g.W.Word.stands) c.args.most c.args.array.now c.loop-value.value-index c.value-item.result
    c.loop-value.words.items c.in_err-word_in.field-0.0 c.loop-value-test.true c.value-item.is c.loop-value.invariant c.in_err-word_in.ensures)

pub loop-value-preserved : goal.loop-value-preserved
loop-value-preserved g c =
    one_more_at (IsText g.W.Word.stands) c.args.array.now c.loop-value.value-index c.value-item.result c.loop-value.words.items
    c.push.new.self.items c.in_ok-word_in.field-0 c.loop-value-test.true c.value-item.is c.loop-value.invariant
    c.in_ok-word_in.ensures c.in_ok-push.ensures.items

pub returns : goal.returns
returns g c =
    all_read_at (IsText g.W.Word.stands) c.args.most c.args.array.now c.loop-value.value-index c.loop-value.words.items c.of.result
    c.loop-value-test.false c.loop-value.invariant c.of.ensures (omega arith)
