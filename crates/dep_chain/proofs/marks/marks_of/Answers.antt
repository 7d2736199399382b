use Rattle.std.proofs.Common.{◌≡◌, ℕ, ◌+◌, ◌-◌, ◌<◌, length, sym, subst, arith}
use Rattle.media_db.specs.declared.records.Record.{Record}
use Rattle.dep_chain.specs.Marks.{MarksBase}
use Rattle.dep_chain.proofs.Marking.{IsPassed, none_passed, marked_passed, marked_read, all_marked}
use Rattle.dep_chain.proofs.marks.marks_of.Goals as goal

pub loop-at-init : goal.loop-at-init
loop-at-init c = record {
  within = omega arith;
  each = c.in_ok-marks.ensures.each;
  passed = none_passed c.args.records.now c.requires.order c.args.sessions.now c.args.moment.0
      c.in_ok-marks.marks.items c.in_ok-marks.ensures.marks;
}

pub loop-at-preserved-then-index : goal.loop-at-preserved-then-index
loop-at-preserved-then-index c =
    let within = c.loop-at.invariant.within in
    let some = c.loop-at-test.true in
    let step : c.loop-at.at - 1 + 1 ≡ c.loop-at.at = omega (arith, some) in
    let each = c.loop-at.invariant.each in
    let inside : c.loop-at.at - 1 < length c.loop-at.marks.items =
    omega (arith, within, some, each) in
    let rows = c.args.records.now in
    let old = c.loop-at.marks.items in
    let new = c.mark_base.new.marks.items in
    let row = c.index-records-at.result in
    let marked = marked_read old (c.loop-at.at - 1) c.index.result.now inside c.index.ensures
    c.if-index.true in
    let base = subst (λ (r : Record). MarksBase rows r.base.0 old new) (sym c.index-records-at.is)
    c.mark_base.ensures.marks in
    record {
      within = omega (arith, within);
      each = c.mark_base.ensures.each;
      passed = marked_passed rows c.requires.order c.args.sessions.now c.args.moment.0 c.loop-at.at
          (c.loop-at.at - 1) row old new step
          (record { within = omega (arith, within, some); is = sym c.index-records-at.is }) marked
          base c.loop-at.invariant.passed;
    }

pub returns-clause-marks : goal.returns-clause-marks
returns-clause-marks c =
    let end = c.loop-at-test.false in
    let none : c.loop-at.at ≡ 0 = omega (arith, end) in
    let passed = subst (λ (at : ℕ). IsPassed c.args.records.now c.args.sessions.now c.args.moment.0
    at c.loop-at.marks.items) none c.loop-at.invariant.passed in
    all_marked c.args.records.now c.requires.order c.args.sessions.now c.args.moment.0
    c.loop-at.marks.items passed c.requires.sessions
