use Rattle.save_stream.proofs.Streams.{fault-begins-none}
use Rattle.save_stream.proofs.laws.faults_begin_no_stream.Goals as goal

pub returns : goal.returns
returns c = fault-begins-none
