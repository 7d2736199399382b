use Rattle.sched_levels.proofs.Months.{found, only}
use Rattle.sched_levels.proofs.laws.days_stand_in_one_month.Goals as goal

pub returns : goal.returns
returns c = record {
  found = found;
  only = only;
}
