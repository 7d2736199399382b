use Rattle.std.proofs.Common.{take, Ok}
use Rattle.std.specs.List.{flat_map}
use Rattle.room_base.specs.Outside.{WritesText}
use Rattle.room_base.proofs.sink.write_parts.Given as goal

-- the first parts were written, and the rest of the object stays
abbrev pub invariant-loop-part : goal.invariant-loop-part
invariant-loop-part g l =
    WritesText {T = Unit {0}} (flat_map (λ part. part.now) (take l.part-index l.parts))
    (g.W.Sink.view l.initial.sink) (g.W.Sink.view l.sink) (Ok tt)
    × g.W.Sink.puts_alone l.initial.sink l.sink
