use Rattle.catalog_spelling.proofs.ChangeTexts.{each-text, not-bad, one-place}
use Rattle.catalog_text.proofs.laws.bytes_are_a_change_or_bad.Goals as goal

pub returns-clause-each : goal.returns-clause-each
returns-clause-each c = each-text

pub returns-clause-either : goal.returns-clause-either
returns-clause-either c = not-bad

pub returns-clause-one : goal.returns-clause-one
returns-clause-one c = one-place
