use Rattle.std.proofs.Common.{◌≤◌, ◌-◌, IsTrue, length}
use Rattle.room_disk.specs.Folder.{KeepsFiles, HasRead}
use Rattle.room_disk.proofs.reading.read_all.Given as goal

abbrev pub invariant-loop-done : goal.invariant-loop-done
invariant-loop-done g l =
    (l.done ≤ length l.into)
    × (IsTrue g.F.Folder.tells
    → KeepsFiles (g.F.Folder.view l.initial.folder) (g.F.Folder.view l.folder)
    × HasRead ((g.F.Folder.view l.initial.folder).disk.reads (g.F.Folder.number l.file)) l.at
    l.initial.into l.into l.done)

abbrev pub decreases-loop-done : goal.decreases-loop-done
decreases-loop-done g l = length l.initial.into - l.done
