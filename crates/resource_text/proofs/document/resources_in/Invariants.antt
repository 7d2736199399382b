use Rattle.std.proofs.Common.{drop}
use Rattle.toml.specs.View.{table_view}
use Rattle.resource_text.specs.Resources.{all_kinds}
use Rattle.resource_text.proofs.Documents.{GiveAll}
use Rattle.resource_text.proofs.document.resources_in.Given as goal

-- what the other kinds give behind those that are read, all give
abbrev pub invariant-loop-kind : goal.invariant-loop-kind
invariant-loop-kind l = GiveAll (table_view l.fn.table) (drop l.kind-index all_kinds) l.resources.items
