use Rattle.room_command.specs.declared.answer.Answer.TheVariants.{Empty}
use Rattle.room_command.specs.declared.reply.Reply.TheVariants.{Done}
use Rattle.room_effects.specs.Plans.{Do}
use Rattle.room_effects.proofs.Checking.{follows_checks}
use Rattle.room_media.specs.Mounting.{emptying, unmount_checks}
use Rattle.room_media.proofs.unmounting.unmount.Goals as goal

pub returns-in-Err : goal.returns-in-Err
returns-in-Err g c =
    let room = c.args.room.now.room in
    follows_checks {X = Unit {0}} (unmount_checks c.args.drive room) (λ done. Do (emptying c.args.drive room) (Done Empty)) c.in-Err.refusal room
    (g.D.Store.view c.args.store.now) c.in-Err.ensures.checks
