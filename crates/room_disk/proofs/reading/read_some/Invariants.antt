use Rattle.std.proofs.Common.{◌≡◌, IsTrue}
use Rattle.room_disk.specs.Folder.{KeepsFiles}
use Rattle.room_disk.proofs.reading.read_some.Given as goal

-- nothing was read so far
abbrev pub invariant-loop : goal.invariant-loop
invariant-loop g l =
    IsTrue g.F.Folder.tells
    → KeepsFiles (g.F.Folder.view l.initial.folder) (g.F.Folder.view l.folder)
    × (l.into ≡ l.initial.into)
