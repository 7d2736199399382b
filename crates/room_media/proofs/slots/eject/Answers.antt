use Rattle.std.proofs.Common.{◌∷◌, []}
use Rattle.room_base.specs.declared.numbers.Cart.{Cart}
use Rattle.catalog_change.specs.declared.change.Change.TheVariants.{Ejected}
use Rattle.room_command.specs.declared.answer.Answer.TheVariants.{Empty}
use Rattle.room_command.specs.declared.reply.Reply.TheVariants.{Done}
use Rattle.room_effects.specs.Effects.{Enter}
use Rattle.room_effects.specs.Entering.{entering}
use Rattle.room_effects.proofs.Checking.{follows_checks}
use Rattle.room_media.specs.Slots.{eject_checks}
use Rattle.room_media.proofs.slots.eject.Goals as goal

pub returns-in-Err : goal.returns-in-Err
returns-in-Err g c =
    let room = c.args.room.now.room in
    follows_checks {X = Cart} (eject_checks c.args.slot room) (λ cart. entering [] (Enter c.args.m (Ejected c.args.slot) ∷ []) (Done Empty) room)
    c.in-Err.refusal room (g.D.Store.view c.args.store.now) c.in-Err.ensures
