use Rattle.room_turns.proofs.Repeating.{finished_call}
use Rattle.room_turns.proofs.calls.repeated_ends_change_nothing.Goals as goal

pub returns : goal.returns
returns g c = λ clock ssid row reply old new none found complete turn.
    finished_call clock ssid row reply old new (g.D.Store.view c.args.before.now) (g.D.Store.view c.args.now.now)
    (g.met.D.Store.is_disk c.args.before.now) (g.met.D.Store.is_disk c.args.now.now) none found complete turn
