use Rattle.room_between.proofs.Planning.{between_followed}
use Rattle.room_media.specs.Slots.{eject_plan}
use Rattle.room_turns.proofs.Quiet.{eject_quiet}
use Rattle.room_core.proofs.media.eject.Goals as goal

pub returns-clause-between : goal.returns-clause-between
returns-clause-between g c =
    let room = c.args.room.now.room in
    between_followed (eject_plan c.args.m c.args.slot room) c.eject-reply.result room c.eject-reply.new.room.room (g.D.Store.view c.args.store.now) (g.D.Store.view c.eject-reply.new.store)
    c.requires.between (eject_quiet room.sessions c.args.m c.args.slot room) c.eject-reply.ensures c.is_open-is_open.ensures.room
