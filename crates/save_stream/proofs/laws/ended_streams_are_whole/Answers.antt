use Rattle.save_stream.proofs.Streams.{ended-is-whole}
use Rattle.save_stream.proofs.laws.ended_streams_are_whole.Goals as goal

pub returns : goal.returns
returns c = ended-is-whole
