use Rattle.room_between.proofs.Planning.{between_followed}
use Rattle.room_media.specs.Slots.{load_plan}
use Rattle.room_turns.proofs.Quiet.{load_quiet}
use Rattle.room_core.proofs.media.load.Goals as goal

pub returns-clause-between : goal.returns-clause-between
returns-clause-between g c =
    let room = c.args.room.now.room in
    between_followed (load_plan c.args.m c.args.slot c.args.cart room) c.load-reply.result room c.load-reply.new.room.room (g.D.Store.view c.args.store.now) (g.D.Store.view c.load-reply.new.store)
    c.requires.between (load_quiet room.sessions c.args.m c.args.slot c.args.cart room) c.load-reply.ensures c.is_open-is_open.ensures.room
