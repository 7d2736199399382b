use Rattle.std.proofs.Common.{◌∷◌, []}
use Rattle.room_command.specs.declared.reply.Reply.TheVariants.{Done}
use Rattle.room_effects.specs.Effects.{Enter}
use Rattle.room_effects.specs.Entering.{entering}
use Rattle.room_between.proofs.Planning.{between_followed}
use Rattle.room_records.proofs.Quieting.{entering_is_quiet}
use Rattle.room_records.proofs.entering.enter.Goals as goal

pub returns-clause-between : goal.returns-clause-between
returns-clause-between g c =
    let room = c.args.room.now.room in
    let plan = entering [] (Enter c.args.m c.args.change ∷ []) (Done c.args.answer) room in
    between_followed plan c.enter_alone-reply.result room c.enter_alone-reply.new.room.room (g.D.Store.view c.args.store.now) (g.D.Store.view c.enter_alone-reply.new.store)
    c.requires.between (entering_is_quiet c.args.m c.args.change (Done c.args.answer) room c.requires.leaves) c.enter_alone-reply.ensures c.is_open-is_open.ensures.room
