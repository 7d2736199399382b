use Rattle.std.proofs.Common.{sym, subst}
use Rattle.std.specs.Prelude.{IfSome, Some}
use Rattle.room_base.specs.declared.refusal.Refusal.TheVariants.{NoMemory}
use Rattle.room_command.specs.declared.reply.Reply.TheVariants.{Refused}
use Rattle.room_effects.specs.View.{RoomView}
use Rattle.room_effects.specs.Plans.{Follows}
use Rattle.save_session.specs.Sessions.{find_session}
use Rattle.save_append.specs.Appending.{on_drive}
use Rattle.save_append.proofs.Taking.{follows_nothing}
use Rattle.save_append.proofs.sending.append_to.Goals as goal

pub returns-in-Err-clause-follows : goal.returns-in-Err-clause-follows
returns-in-Err-clause-follows g c =
    let room = c.args.room.now.room in
    let disk = g.D.Store.view c.args.store.now in
    let F : RoomView → Type 0 = λ new. IfSome (find_session c.args.ssid.0 room.sessions)
    (λ session. Follows (on_drive (Some c.args.drive) c.args.ssid.0 c.args.piece.now session room) (Refused NoMemory) room new disk disk) in
    subst F (sym c.in-Err.ensures.room) (follows_nothing c.args.ssid.0 c.args.drive c.args.piece.now room disk (find_session c.args.ssid.0 room.sessions))
