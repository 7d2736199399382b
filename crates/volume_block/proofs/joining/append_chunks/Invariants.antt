use Rattle.std.proofs.Common.{◌≡◌, ◌≤◌, ◌-◌, ℕ, List, length, take}
use Rattle.volume_block.specs.Chunks.{ChunkText}
use Rattle.volume_block.specs.Valid.{HoldsChunks}
use Rattle.volume_block.specs.Places.{IsChunkPlace}
use Rattle.volume_block.proofs.Appending.{HasAppended}
use Rattle.volume_block.proofs.joining.append_chunks.Given as goal

-- the bytes of the chunks before the place are appended
abbrev pub invariant-loop-chunk : goal.invariant-loop-chunk
invariant-loop-chunk l = record {
  place : IsChunkPlace l.block l.at;
  within : l.at ≤ length l.block;
  appended : (volid number units : ℕ) (chunks : List ChunkText) → HoldsChunks l.block volid number units chunks
      → HasAppended l.initial.bytes.items l.bytes.items l.at chunks;
  long : length l.initial.bytes.items ≤ length l.bytes.items;
  stays : take (length l.initial.bytes.items) l.bytes.items ≡ l.initial.bytes.items;
}

abbrev pub decreases-loop-chunk : goal.decreases-loop-chunk
decreases-loop-chunk l = length l.block - l.at
