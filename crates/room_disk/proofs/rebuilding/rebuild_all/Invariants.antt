use Rattle.std.proofs.Common.{◌≡◌, ◌<◌, ◌≤◌, ℕ, reverse, slice_index_or}
use Rattle.room_disk.specs.declared.mem_file.MemFile.{MemFile}
use Rattle.room_disk.specs.Rebuilding.{IsRebuilt}
use Rattle.room_disk.proofs.rebuilding.rebuild_all.Given as goal

-- the files before the index are rebuilt, and the others are as they were
abbrev pub invariant-loop-file : goal.invariant-loop-file
invariant-loop-file l =
    ((index : ℕ) (other : MemFile) → index < l.file-index
    → IsRebuilt l.part (reverse l.events) (slice_index_or l.initial.files index other) (slice_index_or l.files index other))
    × ((index : ℕ) (other : MemFile) → l.file-index ≤ index → slice_index_or l.files index other ≡ slice_index_or l.initial.files index other)
