use Rattle.save_stream.proofs.OneSpelling.{reads-pieces}
use Rattle.save_stream.proofs.laws.same_in_any_pieces.Goals as goal

pub returns : goal.returns
returns c = λ reading pieces. reads-pieces pieces reading
