use Rattle.dep_chain.specs.Marks.{AreUnmarked}
use Rattle.dep_chain.proofs.purging.unmarked_sets.Given as goal

-- those of the records that were passed
abbrev pub invariant-loop-place : goal.invariant-loop-place
invariant-loop-place l = AreUnmarked l.records l.marks l.place l.ssids.items
