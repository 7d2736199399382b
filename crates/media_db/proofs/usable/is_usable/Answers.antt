use Rattle.std.proofs.Common.{refl, sym}
use Rattle.media_db.specs.Usable.{alone, based}
use Rattle.media_db.proofs.Chains.{usable_down, base_is_lower}
use Rattle.media_db.proofs.usable.is_usable.Goals as goal

pub returns-then-at-eq0 : goal.returns-then-at-eq0
returns-then-at-eq0 c = (λ _. c.loop-at.invariant.up (alone c.loop-at.at.now (c.loop-at-test.ensures.0 refl) c.if-at-eq0.true), λ _. refl)

pub loop-at-smaller : goal.loop-at-smaller
loop-at-smaller c = base_is_lower c.args.records.now c.loop-at.at.now c.in-Some.base.now c.loop-at.invariant.base (sym c.in-Some.ensures.found)

pub loop-at-preserved : goal.loop-at-preserved
loop-at-preserved c =
    let at = c.loop-at.at.now in
    let base = c.in-Some.base.now in
    record {
      base = c.in-Some.ensures.base;
      down = λ usable. usable_down base (c.loop-at.invariant.down usable) c.if-at-eq0.false (sym c.in-Some.ensures.found);
      up = λ usable. c.loop-at.invariant.up (based at base (c.loop-at-test.ensures.0 refl) (sym c.in-Some.ensures.found) usable);
    }
