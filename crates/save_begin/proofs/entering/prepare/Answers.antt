use Rattle.catalog_change.specs.declared.change.Change.TheVariants.{Begun}
use Rattle.save_begin.proofs.Opening.{prepared_more}
use Rattle.save_begin.proofs.entering.prepare.Goals as goal

pub returns-clause-entry : goal.returns-clause-entry
returns-clause-entry c =
    prepared_more (Begun c.in_ok-copy.field-0) c.in_ok-first.first c.prepare_entry.new.room c.prepare_commits.new.self c.in_ok-first.ensures.prepared
    c.prepare_commits.ensures.room c.prepare_commits.ensures.memory
