use Rattle.room_between.proofs.Planning.{between_followed}
use Rattle.room_turns.proofs.Quiet.{label_quiet}
use Rattle.room_core.proofs.media.label.Goals as goal

pub returns-clause-between : goal.returns-clause-between
returns-clause-between g c =
    let room = c.args.room.now.room in
    let done = c.label-reply.ensures in
    between_followed done.0 c.label-reply.result room c.label-reply.new.room.room (g.D.Store.view c.args.store.now) (g.D.Store.view c.label-reply.new.store)
    c.requires.between (label_quiet room.sessions c.args.m c.args.slot c.args.pool c.args.capacity c.args.block room done.0 done.1) done.2 c.is_open-is_open.ensures.room
