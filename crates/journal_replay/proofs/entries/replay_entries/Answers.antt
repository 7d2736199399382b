use Rattle.std.proofs.Common.{refl}
use Rattle.journal_replay.proofs.Following.{replays_next, strays_among, told_change, told_stray}
use Rattle.journal_replay.proofs.entries.replay_entries.Goals as goal

pub returns-then-not-branch : goal.returns-then-not-branch
returns-then-not-branch c =
    let mid = c.loop-entry.catalogue.lists in (
      refl,
      strays_among c.args.form c.args.entries.now c.loop-entry.entry-index c.entry-item.result c.args.catalogue.now.lists mid c.loop-entry-test.true c.entry-item.is
          c.loop-entry.invariant
          (told_stray c.args.form c.as_slice.result.now c.entry-item.result.bytes mid c.apply_entry.new.catalogue.lists c.in_ok-apply_entry.field-0 c.as_slice.ensures
          c.if-not-branch.true c.in_ok-apply_entry.ensures),
    )

pub loop-entry-preserved : goal.loop-entry-preserved
loop-entry-preserved c =
    let mid = c.loop-entry.catalogue.lists in
    replays_next c.args.form c.args.entries.now c.loop-entry.entry-index c.entry-item.result c.args.catalogue.now.lists mid c.apply_entry.new.catalogue.lists
    c.loop-entry-test.true c.entry-item.is c.loop-entry.invariant
    (told_change c.args.form c.as_slice.result.now c.entry-item.result.bytes mid c.apply_entry.new.catalogue.lists c.in_ok-apply_entry.field-0 c.as_slice.ensures
    c.if-not-branch.false c.in_ok-apply_entry.ensures)
