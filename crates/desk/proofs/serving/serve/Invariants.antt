use Rattle.desk.specs.Runs.{around}
use Rattle.desk.proofs.SoFar.{Going}
use Rattle.desk.proofs.serving.serve.Given as goal

abbrev pub invariant-requests : goal.invariant-requests
invariant-requests g l =
    Going l.counter l.initial.room l.room
    (around (g.S.Source.view l.initial.input) (g.W.Sink.view l.initial.out) (g.C.Clock.view l.initial.clock) (g.D.Store.view l.initial.disk))
    (around (g.S.Source.view l.input) (g.W.Sink.view l.out) (g.C.Clock.view l.clock) (g.D.Store.view l.disk))
    l.intake.bytes.items l.intake.allowed
