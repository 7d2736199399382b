use Rattle.std.proofs.Common.{◌≡◌, ◌≤◌, length}
use Rattle.dep_chain.proofs.Marking.{IsPassed}
use Rattle.dep_chain.proofs.marks.marks_of.Given as goal

-- the marks of the records that were passed have reached their bases
abbrev pub invariant-loop-at : goal.invariant-loop-at
invariant-loop-at l = record {
  within : l.at ≤ length l.records;
  each : length l.marks.items ≡ length l.records;
  passed : IsPassed l.records l.sessions l.fn.moment.0 l.at l.marks.items;
}

abbrev pub decreases-loop-at : goal.decreases-loop-at
decreases-loop-at l = l.at
