use Rattle.std.proofs.Common.{◌∷◌, []}
use Rattle.catalog_change.specs.declared.change.Change.TheVariants.{Loaded}
use Rattle.room_command.specs.declared.answer.Answer.TheVariants.{Empty}
use Rattle.room_command.specs.declared.reply.Reply.TheVariants.{Done}
use Rattle.room_effects.specs.Effects.{Enter}
use Rattle.room_effects.specs.Entering.{entering}
use Rattle.room_effects.proofs.Checking.{came_to, follows_checks}
use Rattle.room_media.specs.Slots.{load_checks}
use Rattle.room_media.proofs.Loading.{loadable}
use Rattle.room_media.proofs.slots.load.Goals as goal

pub enter_alone-requires-clause-fits : goal.enter_alone-requires-clause-fits
enter_alone-requires-clause-fits g c =
    loadable c.args.slot c.args.cart c.args.room.now.room (came_to {X = Unit {0}} (load_checks c.args.slot c.args.cart.0 c.args.room.now.room) tt c.in-Ok.ensures)

pub returns-in-Err : goal.returns-in-Err
returns-in-Err g c =
    let room = c.args.room.now.room in
    follows_checks {X = Unit {0}} (load_checks c.args.slot c.args.cart.0 room) (λ done. entering [] (Enter c.args.m (Loaded c.args.slot c.args.cart) ∷ []) (Done Empty) room)
    c.in-Err.refusal room (g.D.Store.view c.args.store.now) c.in-Err.ensures
