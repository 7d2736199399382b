use Rattle.std.proofs.Common.{Err, refl, ap}
use Rattle.room_run.specs.Run.{world}
use Rattle.room_run.proofs.Endings.{file_ends}
use Rattle.room_run.proofs.get.get.Goals as goal

pub returns-in-Err-clause-ends : goal.returns-in-Err-clause-ends
returns-in-Err-clause-ends g c = λ input clock.
    let before = world input (g.W.Sink.view c.args.out.now) (g.D.Store.view c.args.disk.now) clock in
    let now = world input (g.W.Sink.view c.args.out.now) (g.D.Store.view c.read_file.new.disk) clock in
    let read = c.in-Err.ensures in
    file_ends c.args.cart c.args.number before now c.in-Err.fault c.file_status_of.result
    (record { input = λ told. refl; out = λ told. refl; disk = read.quiet; clock = λ told. refl })
    (λ same. read.cause.cause (ap Err same)) read.read c.file_status_of.ensures
