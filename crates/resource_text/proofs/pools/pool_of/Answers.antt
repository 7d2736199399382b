use Rattle.std.proofs.Common.{refl, inl}
use Rattle.std.proofs.lemmas.Result.{err_from_is_err_and}
use Rattle.toml.specs.View.{table_view}
use Rattle.resource_text.proofs.Composing.{levels_stop, sets_stop}
use Rattle.resource_text.proofs.pools.pool_of.Goals as goal

pub returns-in_err-sets : goal.returns-in_err-sets
returns-in_err-sets c =
    let p = err_from_is_err_and c.from_residual-in_err-sets.result c.from_residual-in_err-sets.ensures.1 in
    rw (p.1, p.2) (sets_stop c.args.name (table_view c.args.table.now) c.in_ok-groups.groups c.in_ok-clients.clients c.in_err-sets.field-0.0
    c.in_ok-know_keys.ensures c.in_ok-groups.ensures c.in_ok-clients.ensures c.in_err-sets.ensures)

pub returns-in_err-levels : goal.returns-in_err-levels
returns-in_err-levels c =
    let p = err_from_is_err_and c.from_residual-in_err-levels.result c.from_residual-in_err-levels.ensures.1 in
    rw (p.1, p.2) (levels_stop c.args.name (table_view c.args.table.now) c.in_ok-groups.groups c.in_ok-clients.clients c.in_ok-sets.sets
    c.in_err-levels.field-0.0 c.in_ok-know_keys.ensures c.in_ok-groups.ensures c.in_ok-clients.ensures c.in_ok-sets.ensures c.in_err-levels.ensures)

pub returns : goal.returns
returns c =
    inl (
      c.in_ok-know_keys.ensures,
      inl (
        c.in_ok-groups.groups,
        c.in_ok-groups.ensures,
        inl (
          c.in_ok-clients.clients,
          c.in_ok-clients.ensures,
          inl (c.in_ok-sets.sets, c.in_ok-sets.ensures, inl (c.in_ok-levels.levels, c.in_ok-levels.ensures, refl)),
        ),
      ),
    )
