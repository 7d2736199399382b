use Rattle.cat_journal.specs.Journal.{first_head}
use Rattle.cat_journal.proofs.Turning.{first_is_new}
use Rattle.cat_journal.proofs.laws.a_fresh_journal_is_its_snapshot.Goals as goal

pub returns : goal.returns
returns c = λ image number snapshot. first_is_new image (first_head number) snapshot
