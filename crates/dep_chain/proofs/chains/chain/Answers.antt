use Rattle.std.proofs.Common.{[], ◌∷◌, append_assoc}
use Rattle.dep_chain.specs.Chains.{alone, based, lower}
use Rattle.dep_chain.proofs.chains.chain.Goals as goal

pub returns-then-row-eq0-clause-chain : goal.returns-then-row-eq0-clause-chain
returns-then-row-eq0-clause-chain c =
    let at = c.loop-ssids.at in
    rw c.in_ok-push.ensures.items (c.loop-ssids.invariant.whole (at ∷ [])
    (alone at c.in_ok-row.row.now c.in_ok-row.ensures.whole c.if-row-eq0.true))

pub loop-ssids-preserved : goal.loop-ssids-preserved
loop-ssids-preserved c =
    let at = c.loop-ssids.at in
    let row = c.in_ok-row.row.now in
    record {
      whole = λ below is. rw (c.in_ok-push.ensures.items, append_assoc)
          (c.loop-ssids.invariant.whole (at ∷ below)
          (based at row below c.in_ok-row.ensures.whole c.if-row-eq0.false is));
      broken = λ fault breaks. c.loop-ssids.invariant.broken fault
          (lower at row fault c.in_ok-row.ensures.whole c.if-row-eq0.false breaks);
    }
