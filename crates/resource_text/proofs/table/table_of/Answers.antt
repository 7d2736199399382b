use Rattle.std.proofs.Common.{◌≡◌, rules, arith}
use Rattle.toml.specs.Data.{table}
use Rattle.toml.specs.View.{table_view, view}
use Rattle.resource_text.proofs.Entries.{keys_ascend}
use Rattle.resource_text.proofs.table.table_of.Goals as goal

pub returns-in-Some : goal.returns-in-Some
returns-in-Some c =
    let is : view c.args.value.now ≡ table (table_view c.in-Some.table.now) = search (rules, arith) in
    (is, keys_ascend c.in-Some.table.now.entries c.len-count.ensures.ordered)
