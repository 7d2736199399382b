use Rattle.std.proofs.Common.{◌≡◌, subst, sym, arith}
use Rattle.std.specs.Prelude.{List, Option}
use Rattle.room_base.specs.declared.refusal.Refusal.TheVariants.{NoMemory}
use Rattle.room_command.specs.declared.answer.Answer.TheVariants.{Empty}
use Rattle.room_command.specs.declared.reply.Reply.TheVariants.{Done, Refused}
use Rattle.slot_changer.specs.Drives.{DriveView, blocks_in, in_drive}
use Rattle.room_effects.specs.View.{RoomView}
use Rattle.room_effects.specs.Plans.{Do, Follows}
use Rattle.room_effects.proofs.Following.{follows_no_memory}
use Rattle.room_media.specs.Mounting.{emptying}
use Rattle.room_media.proofs.Emptying.{follows_empty}
use Rattle.room_media.proofs.unmounting.empty_drive.Goals as goal

pub returns-then-blocks-eq0 : goal.returns-then-blocks-eq0
returns-then-blocks-eq0 g c =
    let room = c.args.room.now.room in
    let B : List (Option DriveView) → Type 0 = λ drives. blocks_in (in_drive drives c.args.drive) ≡ 0 in
    follows_empty c.args.drive room c.take_out.new.self.room (g.D.Store.view c.args.store.now) c.is_open-is_open.ensures.room c.requires.opens c.requires.drive
    (subst B c.drives.ensures (omega (arith, c.blocks-2.ensures.count))) c.take_out.ensures.taken

pub returns-in-Err : goal.returns-in-Err
returns-in-Err g c =
    let room = c.args.room.now.room in
    let disk = g.D.Store.view c.args.store.now in
    let plan = Do (emptying c.args.drive room) (Done Empty) in
    let F : RoomView → Type 0 = λ now. Follows plan (Refused NoMemory) room now disk disk in
    subst F (sym c.in-Err.ensures.room) (follows_no_memory plan room disk)
