use Rattle.std.proofs.Common.{◌≡◌, inl, inr, eq-eqb, arith}
use mathlib.Core.Bool.{false≢true}
use Rattle.std.proofs.lemmas.Bool.Decides.{nat_tests}
use Rattle.dep_chain.proofs.Depending.{step_down, step_up, no_base_below, none_below}
use Rattle.dep_chain.proofs.bases.stands_on.Goals as goal

pub loop-at-preserved : goal.loop-at-preserved
loop-at-preserved c =
    let rows = c.args.db.now.records in
    let has = c.in-Some.ensures.base in
    record {
      down = λ on. step_down rows c.loop-at.at.0 c.in-Some.base.0 c.args.other.0 has
          c.loop-at-test.true (c.loop-at.invariant.down on);
      up = λ on. c.loop-at.invariant.up
          (inr (step_up rows c.loop-at.at.0 c.in-Some.base.0 c.args.other.0 has on));
    }

pub returns-in-None : goal.returns-in-None
returns-in-None c = (
  λ is. absurd (false≢true is),
  λ on. absurd (no_base_below c.args.db.now.records c.loop-at.at.0 c.args.other.0
      c.in-None.ensures.base c.loop-at-test.true (c.loop-at.invariant.down on)),
)

pub returns : goal.returns
returns c = (
  λ is. c.loop-at.invariant.up (let same : c.loop-at.at.0 ≡ c.args.other.0 = grind
      (arith, nat_tests) in inl same),
  λ on. eq-eqb c.loop-at.at.0 c.args.other.0
      (none_below c.args.db.now.records c.loop-at.at.0 c.args.other.0 c.requires
      c.loop-at-test.false (c.loop-at.invariant.down on)),
)
