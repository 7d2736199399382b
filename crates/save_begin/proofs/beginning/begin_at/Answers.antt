use Rattle.std.proofs.Common.{subst, sym, arith}
use Rattle.save_stream.specs.declared.head.SetHead.{SetHead}
use Rattle.room_effects.proofs.Checking.{came_to}
use Rattle.save_begin.specs.declared.choosing.Chosen.{Chosen}
use Rattle.save_begin.specs.Beginning.{drive_check}
use Rattle.save_begin.specs.Fitting.{IsNewHead}
use Rattle.save_begin.proofs.Heads.{is_new}
use Rattle.save_begin.proofs.Planned.{chosen_head, level_refused}
use Rattle.save_begin.proofs.beginning.begin_at.Goals as goal

pub begin_chosen-requires-clause-choice : goal.begin_chosen-requires-clause-choice
begin_chosen-requires-clause-choice g c =
    let room = c.args.room.now.room in
    let choice = c.in-Ok.ensures.head in
    let N : SetHead → Type 0 = λ head. IsNewHead head room in
    record {
      head = λ below.
          subst N (sym (chosen_head choice.0 choice.2 c.in-Ok.chosen (came_to {X = Chosen} (drive_check choice.0 choice.2) c.in-Ok.chosen choice.4)))
          (is_new c.args.m c.args.asked c.args.wanted room choice.0 choice.1 c.requires.asked c.requires.between.is.catalogue c.requires.moment
          (omega (arith, c.rank-rank.ensures.value, c.rank-rank.ensures.bound)) below c.requires.between.records);
      drive = c.in-Ok.ensures.drive;
    }

pub returns-in-Err-clause-follows : goal.returns-in-Err-clause-follows
returns-in-Err-clause-follows g c =
    let choice = c.in-Err.ensures.head in
    level_refused c.args.m c.args.asked c.args.room.now.room c.args.wanted choice.0 choice.2 choice.1 choice.3 c.in-Err.refusal (g.D.Store.view c.args.store.now) choice.4
