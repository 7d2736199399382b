use Rattle.desk.specs.Runs.{around}
use Rattle.desk.specs.declared.end.DeskEnd.TheVariants as ends
use Rattle.desk.proofs.Running.{quietly_none, runs_unopened}
use Rattle.desk.proofs.serving.desk.Goals as goal

pub returns-in-Err : goal.returns-in-Err
returns-in-Err g c =
    let disk = g.D.Store.view c.args.disk.now in
    runs_unopened ends.Memory (around (g.S.Source.view c.args.input.now) (g.W.Sink.view c.args.out.now) (g.C.Clock.view c.args.clock.now) disk) disk tt (quietly_none disk)
