use Rattle.sched_levels.proofs.Decided.{theirs, others}
use Rattle.sched_levels.proofs.laws.overrides_decide_their_days.Goals as goal

pub returns : goal.returns
returns c = record {
  theirs = theirs;
  others = others;
}
