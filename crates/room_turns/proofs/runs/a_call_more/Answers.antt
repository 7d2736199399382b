use Rattle.room_turns.proofs.Serving.{served_more}
use Rattle.room_turns.proofs.runs.a_call_more.Goals as goal

pub returns : goal.returns
returns g c = λ passages call old room new so_far opens turn is.
    served_more passages call old room new (g.D.Store.view c.args.before.now) (g.D.Store.view c.args.mid.now) (g.D.Store.view c.args.now.now)
    so_far opens turn is (g.met.D.Store.is_disk c.args.mid.now)
