use Rattle.room_between.proofs.Planning.{between_followed}
use Rattle.room_turns.proofs.Quiet.{mount_quiet}
use Rattle.room_core.proofs.media.mount.Goals as goal

pub returns-clause-between : goal.returns-clause-between
returns-clause-between g c =
    let room = c.args.room.now.room in
    let done = c.mount-reply.ensures in
    between_followed done.0 c.mount-reply.result room c.mount-reply.new.room.room (g.D.Store.view c.args.store.now) (g.D.Store.view c.mount-reply.new.store)
    c.requires.between (mount_quiet room.sessions c.args.slot c.args.drive room done.0 done.1) done.2 c.is_open-is_open.ensures.room
