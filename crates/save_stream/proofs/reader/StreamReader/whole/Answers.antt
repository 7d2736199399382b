use Rattle.save_stream.proofs.SoFar.{start-so-far}
use Rattle.save_stream.proofs.reader.StreamReader.whole.Goals as goal

pub from-requires : goal.from-requires
from-requires c = start-so-far
