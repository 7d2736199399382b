use Rattle.room_resources.proofs.Definable.{room_is}
use Rattle.room_resources.proofs.adding.have_room.Goals as goal

pub returns : goal.returns
returns c = room_is c.args.catalogue.now.lists.resources c.args.new.now c.room_for.result c.room_for.ensures
