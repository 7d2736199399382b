use Rattle.save_stream.proofs.SoFar.{index-ascends, stands-ascend}
use Rattle.client_index.proofs.laws.entries_of_streams_ascend.Goals as goal

pub returns : goal.returns
returns c = record { index = index-ascends; read = stands-ascend }
