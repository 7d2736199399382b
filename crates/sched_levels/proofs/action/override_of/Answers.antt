use Rattle.std.proofs.Common.{sym}
use Rattle.std.proofs.lemmas.Cmp.{nat_cmp_total}
use Rattle.room_base.proofs.OrderedSearch.{found_read, none_at}
use Rattle.sched_levels.specs.Actions.{day_of}
use Rattle.sched_levels.proofs.action.override_of.Goals as goal

pub returns-in-Ok : goal.returns-in-Ok
returns-in-Ok c = sym (found_read nat_cmp_total day_of c.args.day c.args.overrides.now c.requires
    c.in-Ok.at c.in-Ok.ensures c.index-overrides-at.result c.index-overrides-at.is)

pub returns-in-Err : goal.returns-in-Err
returns-in-Err c = sym (none_at nat_cmp_total day_of c.args.day c.args.overrides.now _
    c.in-Err.ensures)
