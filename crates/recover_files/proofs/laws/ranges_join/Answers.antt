use Rattle.recover_files.proofs.Joining.{ranges_behind, range_front}
use Rattle.recover_files.proofs.laws.ranges_join.Goals as goal

pub returns-clause-behind : goal.returns-clause-behind
returns-clause-behind c = ranges_behind

pub returns-clause-front : goal.returns-clause-front
returns-clause-front c = range_front
