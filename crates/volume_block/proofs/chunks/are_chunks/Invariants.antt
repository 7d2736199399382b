use Rattle.std.proofs.Common.{◌≤◌, ◌^◌, ℕ, List, length}
use Rattle.volume_block.proofs.Splits.{IsSplit}
use Rattle.volume_block.proofs.chunks.are_chunks.Given as goal

pub record RestIsKept (payload rest : List ℕ) : Type 0 where
  pub split : IsSplit payload rest
  pub fits : length rest ≤ 2 ^ 32

abbrev pub invariant-loop-rest : goal.invariant-loop-rest
invariant-loop-rest l = RestIsKept l.payload l.rest

abbrev pub decreases-loop-rest : goal.decreases-loop-rest
decreases-loop-rest l = length l.rest
