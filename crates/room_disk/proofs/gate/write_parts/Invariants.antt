use Rattle.std.proofs.Common.{◌≡◌, ◌+◌, length, take}
use Rattle.std.specs.Prelude.{Ok}
use Rattle.room_base.specs.declared.fault.Failed.{Failed}
use Rattle.room_disk.specs.Crash.{Overlays, KeepsFront, all_bytes}
use Rattle.room_disk.specs.Writing.{ChangesFile}
use Rattle.room_disk.proofs.gate.write_parts.Given as goal

-- the parts before the index are written
abbrev pub invariant-loop-part : goal.invariant-loop-part
invariant-loop-part g l =
    (l.next ≡ l.at + length (all_bytes (take l.part-index l.parts)))
    × ChangesFile {T = Unit {0}} {E = Failed} l.file (Overlays l.at (all_bytes (take l.part-index l.parts))) (KeepsFront l.at)
    (g.D.Store.view l.initial.store) (g.D.Store.view l.store) (Ok tt)
