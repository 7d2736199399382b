use Rattle.save_session.proofs.Views.{on_ok}
use Rattle.save_begin.proofs.Recording.{closed_on, entered_alone, entered_on, keeps_entered}
use Rattle.save_begin.proofs.entering.enter_record.Goals as goal

pub enter-requires-clause-memory : goal.enter-requires-clause-memory
enter-requires-clause-memory g c = c.requires.prepared.memory c.args.m

pub returns-in-None-clause-memory : goal.returns-in-None-clause-memory
returns-in-None-clause-memory g c =
    on_ok c.enter.result (keeps_entered c.args.m c.args.change c.args.room.now.memory c.enter.new.self.memory) c.enter.ensures.memory

pub returns-in-None-clause-entered : goal.returns-in-None-clause-entered
returns-in-None-clause-entered g c =
    on_ok c.enter.result (entered_alone c.args.m c.args.change c.args.room.now.room c.enter.new.self.room)
    (entered_on c.args.m c.args.change c.enter.result c.args.room.now.room c.enter.new.self.room
    (g.D.Store.view c.args.store.now) (g.D.Store.view c.enter.new.store) c.enter.ensures.does)

pub returns-in-None-clause-shut : goal.returns-in-None-clause-shut
returns-in-None-clause-shut g c =
    closed_on c.args.m c.args.change c.enter.result c.args.room.now.room c.enter.new.self.room
    (g.D.Store.view c.args.store.now) (g.D.Store.view c.enter.new.store) c.enter.ensures.does
