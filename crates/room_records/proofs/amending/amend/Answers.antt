use Rattle.std.proofs.Common.{◌∷◌, []}
use Rattle.catalog_change.specs.declared.change.Change.TheVariants.{Amended}
use Rattle.room_command.specs.declared.answer.Answer.TheVariants.{Empty}
use Rattle.room_command.specs.declared.reply.Reply.TheVariants.{Done}
use Rattle.room_effects.specs.Effects.{Enter}
use Rattle.room_effects.specs.Entering.{entering}
use Rattle.room_effects.proofs.Checking.{came_to, follows_checks}
use Rattle.room_records.specs.declared.amending.Amendment.{Amendment}
use Rattle.room_records.specs.Amending.{amend_checks}
use Rattle.room_records.proofs.Amendable.{amend_fits}
use Rattle.room_records.proofs.amending.amend.Goals as goal

pub enter-requires-clause-fits : goal.enter-requires-clause-fits
enter-requires-clause-fits g c =
    let room = c.args.room.now.room in
    amend_fits c.args.ssid c.args.browse c.args.retain c.args.hold room c.in-Ok.amended c.amend_checks.ensures.held
    (came_to {X = Amendment} (amend_checks c.args.ssid c.args.browse c.args.retain c.args.hold room) c.in-Ok.amended c.in-Ok.ensures.checks)

pub returns-in-Err-clause-follows : goal.returns-in-Err-clause-follows
returns-in-Err-clause-follows g c =
    let room = c.args.room.now.room in
    follows_checks {X = Amendment} (amend_checks c.args.ssid c.args.browse c.args.retain c.args.hold room)
    (λ amended. entering [] (Enter c.args.m (Amended c.args.ssid amended.browse amended.retain amended.hold) ∷ []) (Done Empty) room)
    c.in-Err.refusal room (g.D.Store.view c.args.store.now) c.in-Err.ensures.checks
