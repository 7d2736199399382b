use Rattle.dep_chain.specs.Depends.{StandsOn}
use Rattle.dep_chain.proofs.bases.stands_on.Given as goal

-- the set stands on the other one exactly where the one that the walk has come to does
abbrev pub invariant-loop-at : goal.invariant-loop-at
invariant-loop-at l = record {
  down : StandsOn l.db.records l.fn.ssid.0 l.other.0 → StandsOn l.db.records l.at.0 l.other.0;
  up : StandsOn l.db.records l.at.0 l.other.0 → StandsOn l.db.records l.fn.ssid.0 l.other.0;
}

abbrev pub decreases-loop-at : goal.decreases-loop-at
decreases-loop-at l = l.at.0
