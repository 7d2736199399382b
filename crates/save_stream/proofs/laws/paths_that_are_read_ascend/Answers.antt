use Rattle.save_stream.proofs.SoFar.{stands-ascend}
use Rattle.save_stream.proofs.laws.paths_that_are_read_ascend.Goals as goal

pub returns : goal.returns
returns c = stands-ascend
