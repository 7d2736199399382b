use Rattle.std.proofs.lemmas.Result.{err_from_is_err_and}
use Rattle.toml.specs.View.{table_view}
use Rattle.resource_text.proofs.Composing.{retention_stops}
use Rattle.resource_text.proofs.clients.client_of.Goals as goal

pub returns-in_err-retention : goal.returns-in_err-retention
returns-in_err-retention c =
    let p = err_from_is_err_and c.from_residual-in_err-retention.result c.from_residual-in_err-retention.ensures.1 in
    rw (p.1, p.2) (retention_stops c.args.name (table_view c.args.table.now) c.in_ok-browse.browse c.in_err-retention.field-0.0
    c.in_ok-know_keys.ensures c.in_ok-browse.ensures c.in_err-retention.ensures)
