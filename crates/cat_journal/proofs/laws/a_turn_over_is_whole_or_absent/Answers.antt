use Rattle.cat_journal.proofs.Turning.{turned, turned_whole, knows_new}
use Rattle.cat_journal.specs.Journal.{next_file, next_generation}
use Rattle.cat_journal.proofs.laws.a_turn_over_is_whole_or_absent.Goals as goal

pub returns-clause-torn : goal.returns-clause-torn
returns-clause-torn c = turned

pub returns-clause-whole : goal.returns-clause-whole
returns-clause-whole c = turned_whole

pub returns-clause-journal : goal.returns-clause-journal
returns-clause-journal c = λ journal snapshot.
    knows_new (next_file journal.current) (next_generation journal.current) journal.last snapshot
