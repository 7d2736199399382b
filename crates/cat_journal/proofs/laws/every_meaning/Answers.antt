use Rattle.cat_journal.proofs.EveryMeaning.{every_meaning}
use Rattle.cat_journal.proofs.laws.every_meaning.Goals as goal

pub returns : goal.returns
returns c = every_meaning
