use Rattle.std.proofs.Common.{◌∷◌, [], subst, sym}
use Rattle.room_base.specs.declared.refusal.Refusal.TheVariants.{NoMemory}
use Rattle.room_command.specs.declared.reply.Reply.TheVariants as replies
use Rattle.room_effects.specs.View.{RoomView}
use Rattle.room_effects.specs.Effects.{Enter}
use Rattle.room_effects.specs.Entering.{with_first_file}
use Rattle.room_effects.specs.Plans.{Do, Follows}
use Rattle.room_effects.proofs.Following.{follows_no_memory}
use Rattle.room_entering.proofs.entering.enter_below.Goals as goal

-- src/entering.rt:108:1
pub returns-in-Err : goal.returns-in-Err
returns-in-Err g c =
    let room = c.args.room.now.room in
    let disk = g.D.Store.view c.args.store.now in
    let plan = Do (with_first_file room (Enter c.args.m c.args.change ∷ [])) (replies.Done c.args.answer) in
    let F : RoomView → Type 0 = λ now. Follows plan (replies.Refused NoMemory) room now disk disk in
    subst F (sym c.prepare_entry.ensures.room) (follows_no_memory plan room disk)
