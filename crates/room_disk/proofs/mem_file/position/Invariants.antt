use Rattle.std.proofs.Common.{◌≡◌, ◌<◌, ℕ, slice_index_or}
use Rattle.room_disk.specs.declared.mem_file.MemFile.{MemFile}
use Rattle.room_disk.proofs.mem_file.position.Given as goal

-- no file before the index has the number
abbrev pub invariant-loop-index : goal.invariant-loop-index
invariant-loop-index l = (earlier : ℕ) (other : MemFile) → earlier < l.index → (slice_index_or l.files earlier other).number ≡ l.number → ⊥
