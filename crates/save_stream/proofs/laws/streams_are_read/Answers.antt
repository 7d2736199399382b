use Rattle.save_stream.proofs.Streams.{stream-is-read}
use Rattle.save_stream.proofs.Whole.{reads-head}
use Rattle.save_stream.proofs.laws.streams_are_read.Goals as goal

pub returns-clause-whole : goal.returns-clause-whole
returns-clause-whole c = stream-is-read

pub returns-clause-after : goal.returns-clause-after
returns-clause-after c = reads-head
