use Rattle.desk.specs.Runs.{around}
use Rattle.desk.proofs.Opened.{opened_is, opened_opens}
use Rattle.desk.proofs.Running.{runs_opened, runs_unopened}
use Rattle.desk.proofs.serving.serve_disk.Goals as goal

pub returns-in-Err : goal.returns-in-Err
returns-in-Err g c =
    runs_unopened c.in-Err.end
    (around (g.S.Source.view c.args.input.now) (g.W.Sink.view c.args.out.now) (g.C.Clock.view c.args.clock.now) (g.D.Store.view c.args.disk.now))
    (g.D.Store.view c.open.new.disk) c.in-Err.ensures.fails c.in-Err.ensures.quiet

pub serve-requires-clause-room : goal.serve-requires-clause-room
serve-requires-clause-room g c =
    opened_is c.in-Ok.room (g.D.Store.view c.args.disk.now) (g.D.Store.view c.open.new.disk) c.in-Ok.ensures.opened c.in-Ok.ensures.quiet

pub serve-requires-clause-opens : goal.serve-requires-clause-opens
serve-requires-clause-opens g c =
    opened_opens c.in-Ok.room (g.D.Store.view c.args.disk.now) (g.D.Store.view c.open.new.disk) c.in-Ok.ensures.opened c.in-Ok.ensures.quiet

pub returns-in-Ok : goal.returns-in-Ok
returns-in-Ok g c =
    runs_opened c.serve.result c.in-Ok.room c.serve.new.room
    (around (g.S.Source.view c.args.input.now) (g.W.Sink.view c.args.out.now) (g.C.Clock.view c.args.clock.now) (g.D.Store.view c.args.disk.now))
    (around (g.S.Source.view c.serve.new.input) (g.W.Sink.view c.serve.new.out) (g.C.Clock.view c.serve.new.clock) (g.D.Store.view c.serve.new.disk))
    (g.D.Store.view c.open.new.disk) (g.met.D.Store.is_disk c.args.disk.now) c.in-Ok.ensures.opened c.in-Ok.ensures.quiet c.serve.ensures
