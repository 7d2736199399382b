use Rattle.std.proofs.Common.{take}
use Rattle.client_index.specs.View.{chain_of}
use Rattle.client_index.specs.Walk.{rests_of}
use Rattle.client_index.proofs.Walked.{Begins}
use Rattle.client_index.proofs.index.ClientIndex.rests_after.Given as goal

abbrev pub invariant-loop-owner : goal.invariant-loop-owner
invariant-loop-owner l = Begins l.after (chain_of l.self.sets (take l.owner-index l.chain)) (rests_of l.rests.items)
