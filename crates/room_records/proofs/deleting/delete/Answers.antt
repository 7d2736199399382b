use Rattle.std.proofs.Common.{◌∷◌, [], refl}
use Rattle.catalog_change.specs.declared.change.Change.TheVariants.{Deleted}
use Rattle.room_command.specs.declared.answer.Answer.TheVariants.{Empty}
use Rattle.room_command.specs.declared.reply.Reply.TheVariants.{Done}
use Rattle.room_effects.specs.Effects.{Enter}
use Rattle.room_effects.specs.Checked.{checked}
use Rattle.room_effects.specs.Entering.{entering}
use Rattle.room_effects.specs.Plans.{Plan}
use Rattle.room_effects.proofs.Checking.{came_to, follows_checked, follows_checks}
use Rattle.room_records.specs.Deleting.{delete_checks}
use Rattle.room_records.proofs.deleting.delete.Goals as goal

pub returns-in-Ok-clause-follows : goal.returns-in-Ok-clause-follows
returns-in-Ok-clause-follows g c =
    let room = c.args.room.now.room in
    let asked = c.in-Ok.ensures.checks.0 in
    let checks = delete_checks c.args.ssid asked room in
    let next : Unit {0} → Plan = λ done. entering [] (Enter c.args.m (Deleted c.args.ssid) ∷ []) (Done Empty) room in (
      checked {X = Unit {0}} checks next,
      record { asked = asked; answer = c.in-Ok.ensures.checks.1; is = refl },
      follows_checked {X = Unit {0}} checks next tt c.enter.result room c.enter.new.room.room (g.D.Store.view c.args.store.now) (g.D.Store.view c.enter.new.store)
          (came_to {X = Unit {0}} checks tt c.in-Ok.ensures.checks.2) c.enter.ensures.follows,
    )

pub returns-in-Err-clause-follows : goal.returns-in-Err-clause-follows
returns-in-Err-clause-follows g c =
    let room = c.args.room.now.room in
    let asked = c.in-Err.ensures.checks.0 in
    let checks = delete_checks c.args.ssid asked room in
    let next : Unit {0} → Plan = λ done. entering [] (Enter c.args.m (Deleted c.args.ssid) ∷ []) (Done Empty) room in (
      checked {X = Unit {0}} checks next,
      record { asked = asked; answer = c.in-Err.ensures.checks.1; is = refl },
      follows_checks {X = Unit {0}} checks next c.in-Err.refusal room (g.D.Store.view c.args.store.now) c.in-Err.ensures.checks.2,
    )
