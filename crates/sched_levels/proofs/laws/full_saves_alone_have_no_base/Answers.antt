use Rattle.sched_levels.proofs.Bases.{no_base}
use Rattle.sched_levels.proofs.laws.full_saves_alone_have_no_base.Goals as goal

pub returns : goal.returns
returns c = no_base
