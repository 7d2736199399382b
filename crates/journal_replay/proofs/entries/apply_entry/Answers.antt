use Rattle.std.proofs.Common.{ap, rules, ◌∙◌}
use Rattle.room_catalog.specs.Changing.{lists_after}
use Rattle.journal_replay.proofs.Following.{stray_bad, stray_unfit, tells}
use Rattle.journal_replay.proofs.entries.apply_entry.Goals as goal

pub returns-in-Err-Bad : goal.returns-in-Err-Bad
returns-in-Err-Bad c = stray_bad c.args.form c.args.bytes.now _ _ (rw c.in-Err-Bad.field-0-is at c.in-Err-Bad.ensures)

pub returns-then-not-may_follow : goal.returns-then-not-may_follow
returns-then-not-may_follow c =
    stray_unfit c.args.form c.args.bytes.now c.args.catalogue.now.lists c.in-Ok.stamped.0.0 c.in-Ok.stamped.1 c.in-Ok.ensures
    (λ may. search rules)

pub returns : goal.returns
returns c =
    tells c.args.form c.args.bytes.now c.args.catalogue.now.lists c.apply.new.self.lists c.in-Ok.stamped.0 c.in-Ok.stamped.1 c.in-Ok.ensures
    (search rules)
    (c.apply.ensures.lists ∙ ap (lists_after c.in-Ok.stamped.0 c.in-Ok.stamped.1) c.prepare.ensures.lists)
