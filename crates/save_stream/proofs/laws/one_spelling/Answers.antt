use Rattle.save_stream.proofs.OneSpelling.{one-spelling}
use Rattle.save_stream.proofs.laws.one_spelling.Goals as goal

pub returns : goal.returns
returns c = one-spelling
