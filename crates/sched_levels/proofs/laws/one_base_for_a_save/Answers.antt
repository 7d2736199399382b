use Rattle.sched_levels.proofs.Bases.{one_base}
use Rattle.sched_levels.proofs.laws.one_base_for_a_save.Goals as goal

pub returns : goal.returns
returns c = one_base
