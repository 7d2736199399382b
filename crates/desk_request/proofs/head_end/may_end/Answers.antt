use Rattle.std.proofs.Common.{◌≡◌, ◌≤◌, ◌∙◌, false, sym, arith}
use borrow.Author.Count.{below_more}
use Rattle.desk_request.specs.HeadEnds.{is_head_end}
use Rattle.desk_request.proofs.Ending.{ends_by}
use Rattle.desk_request.proofs.head_end.may_end.Goals as goal

pub loop-at-preserved : goal.loop-at-preserved
loop-at-preserved c =
    below_more (λ k. c.args.from ≤ k → is_head_end c.args.bytes.now k ≡ false) c.loop-at.at c.loop-at.invariant
    (λ low. sym c.is_head_end.ensures ∙ c.if-is_head_end.false)

pub returns-clause-none : goal.returns-clause-none
returns-clause-none c = λ none.
    ends_by c.args.bytes.now c.args.from
    (λ k within low. c.loop-at.invariant k (omega (arith, c.loop-at-test.false, within)) low)
