use Rattle.std.proofs.Common.{refl, inl}
use Rattle.std.proofs.lemmas.Result.{err_from_is_err_and}
use Rattle.toml.specs.View.{table_view}
use Rattle.resource_text.proofs.Composing.{overrides_stop}
use Rattle.resource_text.proofs.schedules.schedule_of.Goals as goal

pub returns-in_err-overrides : goal.returns-in_err-overrides
returns-in_err-overrides c =
    let p = err_from_is_err_and c.from_residual-in_err-overrides.result c.from_residual-in_err-overrides.ensures.1 in
    rw (p.1, p.2) (overrides_stop c.args.name (table_view c.args.table.now) c.in_ok-period.period c.in_ok-actions.actions
    c.in_err-overrides.field-0.0 c.in_ok-know_keys.ensures c.in_ok-period.ensures c.in_ok-actions.ensures c.in_err-overrides.ensures)

pub returns : goal.returns
returns c =
    inl (
      c.in_ok-know_keys.ensures,
      inl (
        c.in_ok-period.period,
        c.in_ok-period.ensures,
        inl (
          c.in_ok-actions.actions,
          c.in_ok-actions.ensures,
          inl (c.in_ok-overrides.overrides, c.in_ok-overrides.ensures, refl),
        ),
      ),
    )
