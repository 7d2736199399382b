use Rattle.cat_journal.proofs.OneMeaning.{one_meaning}
use Rattle.cat_journal.proofs.laws.one_meaning.Goals as goal

pub returns : goal.returns
returns c = one_meaning
