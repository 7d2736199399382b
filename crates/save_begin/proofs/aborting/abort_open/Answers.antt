use Rattle.std.proofs.Common.{subst, sym}
use Rattle.room_base.specs.declared.refusal.Refusal.TheVariants.{NoMemory}
use Rattle.room_command.specs.declared.reply.Reply.TheVariants.{Refused}
use Rattle.room_effects.specs.View.{RoomView}
use Rattle.room_effects.specs.Plans.{Follows}
use Rattle.room_effects.proofs.Following.{follows_no_memory}
use Rattle.save_begin.specs.Aborting.{giving_up}
use Rattle.save_begin.proofs.aborting.abort_open.Goals as goal

pub returns-in-Err-clause-follows : goal.returns-in-Err-clause-follows
returns-in-Err-clause-follows g c =
    let room = c.args.room.now.room in
    let disk = g.D.Store.view c.args.store.now in
    let plan = giving_up c.args.m c.args.ssid room in
    let F : RoomView → Type 0 = λ now. Follows plan (Refused NoMemory) room now disk disk in
    subst F (sym c.prepare_entry.ensures.room) (follows_no_memory plan room disk)
