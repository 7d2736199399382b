use Rattle.room_turns.proofs.Calling.{call_ended, call_moments}
use Rattle.room_turns.proofs.calls.images_of_a_call_replay.Goals as goal

pub returns : goal.returns
returns g c =
    let before = g.D.Store.view c.args.before.now in
    let now = g.D.Store.view c.args.now.now in
    record {
      moments = λ call old new. call_moments call old new before now (g.met.D.Store.is_disk c.args.before.now);
      ended = λ call old new. call_ended call old new before now (g.met.D.Store.is_disk c.args.before.now);
    }
