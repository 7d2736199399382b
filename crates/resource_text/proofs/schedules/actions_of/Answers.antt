use Rattle.std.proofs.Common.{codes, rules, arith}
use Rattle.resource_text.proofs.Items.{none_of_nothing, actions_read}
use Rattle.resource_text.proofs.schedules.actions_of.Goals as goal

pub returns-then-is_empty : goal.returns-then-is_empty
returns-then-is_empty c =
    none_of_nothing (codes "actions") c.args.array.now c.malformed.result (search (rules, arith)) c.malformed.ensures

pub returns : goal.returns
returns c = actions_read (codes "actions") c.args.array.now c.words_of.result (search (rules, arith)) c.words_of.ensures
