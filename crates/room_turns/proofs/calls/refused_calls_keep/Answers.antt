use Rattle.room_turns.proofs.Refusing.{refused_disk, refused_room}
use Rattle.room_turns.proofs.calls.refused_calls_keep.Goals as goal

pub returns : goal.returns
returns g c =
    let before = g.D.Store.view c.args.before.now in
    let now = g.D.Store.view c.args.now.now in
    record {
      room = λ call refusal old new is fine turn. refused_room call refusal old new is fine turn.deeds turn.answered before now turn.performed;
      disk = λ call refusal old new is fine turn. refused_disk call refusal old new is fine turn.deeds turn.answered before now (g.met.D.Store.is_disk c.args.before.now)
          (g.met.D.Store.is_disk c.args.now.now) turn.performed;
    }
