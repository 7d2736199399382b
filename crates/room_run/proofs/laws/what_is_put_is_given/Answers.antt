use Rattle.room_run.proofs.GetRuns.{one_more_gives, gives_alone}
use Rattle.room_run.proofs.laws.what_is_put_is_given.Goals as goal

pub returns-clause-given : goal.returns-clause-given
returns-clause-given c = one_more_gives

pub returns-clause-alone : goal.returns-clause-alone
returns-clause-alone c = gives_alone
