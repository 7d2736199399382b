use Rattle.catalog_spelling.proofs.ChangeTexts.{decoded-again}
use Rattle.catalog_text.proofs.laws.encoded_changes_are_decoded.Goals as goal

pub returns : goal.returns
returns c = decoded-again
