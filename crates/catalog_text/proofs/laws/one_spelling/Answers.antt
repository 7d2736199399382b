use Rattle.catalog_spelling.proofs.ChangeTexts.{one-change}
use Rattle.catalog_text.proofs.laws.one_spelling.Goals as goal

pub returns : goal.returns
returns c = one-change
