use Rattle.std.proofs.Common.{◌≤◌, length}
use Rattle.client_index.specs.View.{chain_of}
use Rattle.client_index.specs.Walk.{rests_of}
use Rattle.client_index.proofs.Passing.{total}
use Rattle.client_index.proofs.Walked.{Walked}
use Rattle.client_index.proofs.index.ClientIndex.view_after.Given as goal

abbrev pub invariant-loop-rests : goal.invariant-loop-rests
invariant-loop-rests l = record {
  walked : Walked (chain_of l.self.sets l.chain) (rests_of l.rests.items) l.after l.answer.items;
  count : length l.answer.items ≤ l.most;
}

abbrev pub decreases-loop-rests : goal.decreases-loop-rests
decreases-loop-rests l = total (rests_of l.rests.items)
