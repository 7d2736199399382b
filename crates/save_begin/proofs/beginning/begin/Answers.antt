use Rattle.save_begin.proofs.Planned.{begin_refused}
use Rattle.save_begin.proofs.beginning.begin.Goals as goal

pub returns-in-Err-clause-follows : goal.returns-in-Err-clause-follows
returns-in-Err-clause-follows g c =
    begin_refused c.args.m (record { client = c.args.client; set = c.args.set; group = c.args.group; level = c.args.level }) c.args.room.now.room
    c.allowed_names-allowed.result c.in-Err.refusal (g.D.Store.view c.args.store.now) c.allowed_names-allowed.ensures c.in-Err.ensures
