use Rattle.room_between.proofs.Planning.{between_followed}
use Rattle.room_resources.specs.Dropping.{drop_plan}
use Rattle.room_turns.proofs.Quiet.{drop_quiet}
use Rattle.room_core.proofs.resources.drop_resource.Goals as goal

pub returns-clause-between : goal.returns-clause-between
returns-clause-between g c =
    let room = c.args.room.now.room in
    between_followed (drop_plan c.args.m c.args.kind c.args.name room) c.drop_resource-reply.result room c.drop_resource-reply.new.room.room (g.D.Store.view c.args.store.now) (g.D.Store.view c.drop_resource-reply.new.store)
    c.requires.between (drop_quiet room.sessions c.args.m c.args.kind c.args.name room) c.drop_resource-reply.ensures c.is_open-is_open.ensures.room
