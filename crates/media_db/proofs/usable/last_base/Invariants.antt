use Rattle.std.proofs.Common.{length}
use Rattle.media_db.proofs.Chains.{IsBehind}
use Rattle.media_db.proofs.usable.last_base.Given as goal

-- the records that were passed are no bases
abbrev pub invariant-loop-row : goal.invariant-loop-row
invariant-loop-row l = IsBehind l.records l.client l.set l.below l.rows

abbrev pub decreases-loop-row : goal.decreases-loop-row
decreases-loop-row l = length l.rows
