use Rattle.std.proofs.Common.{length, subst, ℕ}
use Rattle.recover_files.specs.StreamAt.{shelf_of}
use Rattle.recover_files.specs.FileBytes.{CanBeHad}
use Rattle.recover_files.proofs.Recovering.{bytes_had, range_recovers, front_written}
use Rattle.recover_files.proofs.files.write_range.Goals as goal

pub returns-in-Err-clause-recovers : goal.returns-in-Err-clause-recovers
returns-in-Err-clause-recovers g c = λ told.
    range_recovers (shelf_of c.args.db.now c.args.home.now (g.D.Store.view c.args.store.now).reads) c.args.db.now.records c.args.ssid.0
    c.args.place (length c.args.piece.now) c.read_range.new.into c.in-Err.fault c.read_range.auto.into (c.in-Err.ensures.given told)

pub returns-in-Ok-write_all-clause-recovers : goal.returns-in-Ok-write_all-clause-recovers
returns-in-Ok-write_all-clause-recovers g c = λ told.
    let shelf = shelf_of c.args.db.now c.args.home.now (g.D.Store.view c.args.store.now).reads in
    let Had : ℕ → Type 0 = λ n. CanBeHad shelf c.args.db.now.records c.args.ssid.0 c.args.place n in
    subst Had c.read_range.auto.into
    (bytes_had shelf c.args.db.now.records c.args.ssid.0 c.args.place (length c.read_range.new.into) c.read_range.new.into
    (c.in-Ok.ensures.given told))

pub returns-in-Err-write_all-clause-written : goal.returns-in-Err-write_all-clause-written
returns-in-Err-write_all-clause-written g c = λ told sink_told.
    front_written (shelf_of c.args.db.now c.args.home.now (g.D.Store.view c.args.store.now).reads) c.args.db.now.records c.args.ssid.0
    c.args.place (length c.args.piece.now) c.read_range.new.into (g.W.Sink.view c.args.out.now).written
    (g.W.Sink.view c.write_all.new.sink).written c.read_range.auto.into (c.in-Ok.ensures.given told)
    (c.in-Err-write_all.ensures.written sink_told)
