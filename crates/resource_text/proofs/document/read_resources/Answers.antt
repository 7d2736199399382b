use Rattle.toml.specs.View.{table_view}
use Rattle.resource_text.proofs.Apart.{texts_are_allowed, texts_are_distinct}
use Rattle.resource_text.proofs.document.read_resources.Goals as goal

pub returns-clause-allowed : goal.returns-clause-allowed
returns-clause-allowed c = texts_are_allowed c.args.text.now (table_view c.in_ok-table.table) c.resources_in.result c.in_ok-table.ensures c.resources_in.ensures

pub returns-clause-distinct : goal.returns-clause-distinct
returns-clause-distinct c = texts_are_distinct c.args.text.now (table_view c.in_ok-table.table) c.resources_in.result c.in_ok-table.ensures c.resources_in.ensures
