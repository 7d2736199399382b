use Rattle.std.proofs.Common.{◌<◌, ℕ, IsTrue, slice_index_or, false}
use Rattle.room_disk.specs.Disk.{Quiet, Settled}
use Rattle.room_disk.specs.Memory.{told_store}
use Rattle.room_disk.proofs.mem_folder.sync_each.Given as goal

-- the files before the index are synced
abbrev pub invariant-loop-file : goal.invariant-loop-file
invariant-loop-file l =
    Quiet (told_store l.initial.store) (told_store l.store)
    × ((file : ℕ) → file < l.file → IsTrue (slice_index_or l.files file false)
    → Settled (told_store l.store) file)
