use Rattle.std.proofs.Common.{◌-◌, ◌≤◌, ℕ, List, length}
use Rattle.volume_block.specs.Chunks.{ChunkText}
use Rattle.volume_block.specs.Valid.{HoldsChunks}
use Rattle.recover_files.proofs.Walking.{HasCome}
use Rattle.recover_files.proofs.chunks.take_run.Given as goal

-- the chunks before the place don't cover the bytes that are clear
abbrev pub invariant-loop-chunk : goal.invariant-loop-chunk
invariant-loop-chunk l = record {
  within : l.at ≤ length l.block;
  most : l.clear ≤ l.wanted.most;
  some : 1 ≤ l.clear;
  come : (volid number units : ℕ) (chunks : List ChunkText) → HoldsChunks l.block volid number units chunks
      → HasCome l.block volid number units l.at l.wanted.ssid.0 l.wanted.copy.0 l.wanted.place l.clear chunks;
}

abbrev pub decreases-loop-chunk : goal.decreases-loop-chunk
decreases-loop-chunk l = length l.block - l.at
