use Rattle.std.proofs.Common.{◌≡◌, ◌≤◌, ◌-◌, length}
use Rattle.room_base.specs.Outside.{Told}
use Rattle.room_run.specs.Stages.{Fills}
use Rattle.room_run.proofs.input.take_up_to.Given as goal

-- a front of the buffer has what was taken, and no take has failed
abbrev pub invariant-loop-taken : goal.invariant-loop-taken
invariant-loop-taken g l =
    (l.taken ≤ length l.buffer)
    × ((g.S.Source.view l.initial.input).faults ≤ (g.S.Source.view l.input).faults)
    × ((g.S.Source.view l.input).tells ≡ (g.S.Source.view l.initial.input).tells)
    × Told (g.S.Source.view l.initial.input).tells
    (Fills (g.S.Source.view l.initial.input).left (g.S.Source.view l.input).left l.buffer l.taken)

abbrev pub decreases-loop-taken : goal.decreases-loop-taken
decreases-loop-taken g l = length l.buffer - l.taken
