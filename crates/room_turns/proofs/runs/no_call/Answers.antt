use Rattle.room_turns.proofs.Serving.{served_none}
use Rattle.room_turns.proofs.runs.no_call.Goals as goal

pub returns : goal.returns
returns g c = λ room is. served_none room (g.D.Store.view c.args.disk.now) is
