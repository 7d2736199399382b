use Rattle.room_turns.proofs.Serving.{served_reopened}
use Rattle.room_turns.proofs.runs.a_reopening.Goals as goal

pub returns : goal.returns
returns g c = λ passages call deeds reopening old room so_far closed held fits tells later quiet replays journal.
    served_reopened passages call deeds reopening old room (g.D.Store.view c.args.before.now) (g.D.Store.view c.args.mid.now) (g.D.Store.view c.args.now.now)
    so_far closed held fits (g.met.D.Store.is_disk c.args.mid.now) tells later quiet replays journal
