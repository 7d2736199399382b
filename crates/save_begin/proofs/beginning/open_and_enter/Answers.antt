use Rattle.std.proofs.Common.{◌∷◌, subst, sym}
use Rattle.std.specs.Prelude.{Ok, Err}
use Rattle.room_base.specs.declared.refusal.Refusal.TheVariants.{NoMemory}
use Rattle.room_command.specs.declared.answer.Answer.{Answer}
use Rattle.room_command.specs.declared.reply.Reply.TheVariants.{Done, Refused}
use Rattle.room_effects.specs.View.{RoomView}
use Rattle.room_effects.specs.Effects.{Open}
use Rattle.room_effects.specs.Plans.{Follows}
use Rattle.room_effects.proofs.Following.{follows_done, follows_fault, follows_no_memory}
use Rattle.save_begin.specs.Beginning.{begin_plan, begun_answer, entering_head}
use Rattle.save_begin.proofs.Opening.{can_open, may_enter}
use Rattle.save_begin.proofs.Planned.{does_begin}
use Rattle.save_begin.proofs.beginning.open_and_enter.Goals as goal

pub enter_head-requires-clause-begun : goal.enter_head-requires-clause-begun
enter_head-requires-clause-begun g c = (
  c.args.chosen.head,
  may_enter c.args.chosen.head c.args.chosen.drive c.args.begun c.args.room.now c.open_session.new.self c.requires.between c.requires.below c.requires.commits
      c.requires.head c.requires.drive c.requires.made c.requires.entry c.in-Ok.ensures.opened c.open_session.ensures.memory c.in-Ok.ensures.first,
)

pub returns-in-Ok-enter_head-clause-follows : goal.returns-in-Ok-enter_head-clause-follows
returns-in-Ok-enter_head-clause-follows g c =
    let old = c.args.room.now.room in
    let new = c.enter_head.new.room.room in
    let chosen = c.args.chosen in
    let before = g.D.Store.view c.args.store.now in
    let now = g.D.Store.view c.enter_head.new.store in
    let A : Answer → Type 0 = λ answer. Follows (begin_plan c.args.m old chosen) (Done answer) old new before now in
    subst A (sym c.requires.answer)
    (follows_done (Open chosen.head ∷ entering_head c.args.m chosen old) (Done (begun_answer chosen.head)) old new before now
    (does_begin c.args.m chosen c.args.begun (Ok tt) old c.open_session.new.self.room new before now c.requires.made
    (can_open chosen.head old c.requires.opens c.requires.few c.requires.head) c.in-Ok.ensures.opened c.in-Ok-enter_head.ensures.does))

pub returns-in-Err-enter_head-clause-follows : goal.returns-in-Err-enter_head-clause-follows
returns-in-Err-enter_head-clause-follows g c =
    let old = c.args.room.now.room in
    let new = c.enter_head.new.room.room in
    let chosen = c.args.chosen in
    let before = g.D.Store.view c.args.store.now in
    let now = g.D.Store.view c.enter_head.new.store in
    follows_fault (Open chosen.head ∷ entering_head c.args.m chosen old) (Done (begun_answer chosen.head)) old new before now c.in-Err-enter_head.fault
    (does_begin c.args.m chosen c.args.begun (Err c.in-Err-enter_head.fault) old c.open_session.new.self.room new before now c.requires.made
    (can_open chosen.head old c.requires.opens c.requires.few c.requires.head) c.in-Ok.ensures.opened c.in-Err-enter_head.ensures.does)

pub returns-in-Err-clause-follows : goal.returns-in-Err-clause-follows
returns-in-Err-clause-follows g c =
    let room = c.args.room.now.room in
    let disk = g.D.Store.view c.args.store.now in
    let plan = begin_plan c.args.m room c.args.chosen in
    let F : RoomView → Type 0 = λ now. Follows plan (Refused NoMemory) room now disk disk in
    subst F (sym c.in-Err.ensures.kept) (follows_no_memory plan room disk)
