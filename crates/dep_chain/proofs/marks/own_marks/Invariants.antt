use Rattle.std.proofs.Common.{◌≡◌, length}
use Rattle.dep_chain.specs.Marks.{AreOwnMarks}
use Rattle.dep_chain.proofs.marks.own_marks.Given as goal

-- the records that were passed have their marks
abbrev pub invariant-loop-row : goal.invariant-loop-row
invariant-loop-row l = record {
  each : length l.marks.items ≡ l.row-index;
  marks : AreOwnMarks l.records l.sessions l.moment.0 l.row-index l.marks.items;
}
