use Rattle.std.proofs.Common.{subst, sym}
use Rattle.room_base.specs.declared.refusal.Refusal.TheVariants.{NoMemory}
use Rattle.room_command.specs.declared.reply.Reply.TheVariants.{Refused}
use Rattle.room_effects.specs.View.{RoomView}
use Rattle.room_effects.specs.Plans.{Follows}
use Rattle.room_effects.proofs.Following.{follows_no_memory}
use Rattle.save_begin.specs.Beginning.{begin_plan}
use Rattle.save_begin.proofs.beginning.begin_below.Goals as goal

pub returns-in-Err-answer_of-clause-follows : goal.returns-in-Err-answer_of-clause-follows
returns-in-Err-answer_of-clause-follows g c =
    let room = c.args.room.now.room in
    let disk = g.D.Store.view c.args.store.now in
    let plan = begin_plan c.args.m room c.args.chosen in
    let F : RoomView → Type 0 = λ now. Follows plan (Refused NoMemory) room now disk disk in
    subst F (sym c.prepare.ensures.room) (follows_no_memory plan room disk)

pub returns-in-Err-clause-follows : goal.returns-in-Err-clause-follows
returns-in-Err-clause-follows g c =
    let room = c.args.room.now.room in
    let disk = g.D.Store.view c.args.store.now in
    let plan = begin_plan c.args.m room c.args.chosen in
    let F : RoomView → Type 0 = λ now. Follows plan (Refused NoMemory) room now disk disk in
    subst F (sym c.prepare.ensures.room) (follows_no_memory plan room disk)
