use Rattle.std.proofs.Common.{◌∷◌, []}
use Rattle.catalog_change.specs.declared.change.Change.TheVariants.{Dropped}
use Rattle.room_command.specs.declared.answer.Answer.TheVariants.{Empty}
use Rattle.room_command.specs.declared.reply.Reply.TheVariants.{Done}
use Rattle.room_effects.specs.Effects.{Enter}
use Rattle.room_effects.specs.Entering.{entering}
use Rattle.room_effects.proofs.Checking.{came_to, follows_checks}
use Rattle.room_resources.specs.Dropping.{may_drop}
use Rattle.room_resources.proofs.Droppable.{can_be_dropped, its_name_is_short}
use Rattle.room_resources.proofs.dropping.drop_resource.Goals as goal

pub enter_alone-requires-clause-allowed : goal.enter_alone-requires-clause-allowed
enter_alone-requires-clause-allowed g c =
    let lists = c.args.room.now.room.catalogue in
    its_name_is_short c.args.kind c.args.name lists (came_to {X = Unit {0}} (may_drop c.args.kind c.args.name lists) tt c.in-Ok.ensures.checks) c.may_drop.ensures.allowed

pub enter_alone-requires-clause-fits : goal.enter_alone-requires-clause-fits
enter_alone-requires-clause-fits g c =
    let lists = c.args.room.now.room.catalogue in
    can_be_dropped c.args.kind c.args.name lists (came_to {X = Unit {0}} (may_drop c.args.kind c.args.name lists) tt c.in-Ok.ensures.checks)

pub returns-in-Err : goal.returns-in-Err
returns-in-Err g c =
    let room = c.args.room.now.room in
    follows_checks {X = Unit {0}} (may_drop c.args.kind c.args.name room.catalogue) (λ _. entering [] (Enter c.args.m (Dropped c.args.kind c.args.name) ∷ []) (Done Empty) room)
    c.in-Err.refusal room (g.D.Store.view c.args.store.now) c.in-Err.ensures.checks
