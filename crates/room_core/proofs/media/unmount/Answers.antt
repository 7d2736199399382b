use Rattle.room_between.proofs.Planning.{between_followed}
use Rattle.room_media.specs.Mounting.{unmount_plan}
use Rattle.room_turns.proofs.Quiet.{unmount_quiet}
use Rattle.room_core.proofs.media.unmount.Goals as goal

pub returns-clause-between : goal.returns-clause-between
returns-clause-between g c =
    let room = c.args.room.now.room in
    between_followed (unmount_plan c.args.drive room) c.unmount-reply.result room c.unmount-reply.new.room.room (g.D.Store.view c.args.store.now) (g.D.Store.view c.unmount-reply.new.store)
    c.requires.between (unmount_quiet room.sessions c.args.drive room) c.unmount-reply.ensures c.is_open-is_open.ensures.room
