use Rattle.save_session.proofs.Running.{parts_are_runs, parts_are_sections}
use Rattle.save_session.proofs.laws.sections_are_the_longest_runs.Goals as goal

pub returns-clause-runs : goal.returns-clause-runs
returns-clause-runs c = parts_are_runs

pub returns-clause-sections : goal.returns-clause-sections
returns-clause-sections c = parts_are_sections
