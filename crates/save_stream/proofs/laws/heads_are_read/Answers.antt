use Rattle.save_stream.proofs.Heads.{head-exact, incomplete-head, bad-head-field}
use Rattle.save_stream.proofs.laws.heads_are_read.Goals as goal

pub returns-clause-alone : goal.returns-clause-alone
returns-clause-alone c = head-exact

pub returns-clause-incomplete : goal.returns-clause-incomplete
returns-clause-incomplete c = incomplete-head

pub returns-clause-bad : goal.returns-clause-bad
returns-clause-bad c = bad-head-field
