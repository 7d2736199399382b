use Rattle.std.proofs.Common.{length, ◌-◌, ◌≡◌, ◌≤◌, ◌++◌, take}
use Rattle.room_base.specs.Outside.{Told}
use Rattle.room_base.proofs.sink.write_all.Given as goal

-- a front of the piece was written, no put has failed, and the rest of the object stays
abbrev pub invariant-loop-done : goal.invariant-loop-done
invariant-loop-done g l =
    (l.done ≤ length l.bytes)
    × ((g.W.Sink.view l.initial.sink).faults ≤ (g.W.Sink.view l.sink).faults)
    × ((g.W.Sink.view l.sink).tells ≡ (g.W.Sink.view l.initial.sink).tells)
    × Told (g.W.Sink.view l.initial.sink).tells
    ((g.W.Sink.view l.sink).written ≡ (g.W.Sink.view l.initial.sink).written ++ take l.done l.bytes)
    × g.W.Sink.puts_alone l.initial.sink l.sink

abbrev pub decreases-loop-done : goal.decreases-loop-done
decreases-loop-done g l = length l.bytes - l.done
