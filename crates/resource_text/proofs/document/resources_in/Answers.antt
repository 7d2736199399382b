use Rattle.std.proofs.Common.{◌≡◌, ◌+◌, ◌∷◌, drop, subst, refl, inl, sym, Ok, get_or}
use Rattle.std.proofs.Math.ListN.{drop_of_length-le}
use Rattle.std.proofs.lemmas.List.{drop_more}
use Rattle.std.proofs.lemmas.Result.{err_from_is_err_and}
use Rattle.toml.specs.View.{table_view}
use Rattle.resource_text.specs.Resources.{all_kinds, kinds_give}
use Rattle.catalog_change.specs.declared.resource.ResourceKind.TheVariants as kinds
use Rattle.resource_text.proofs.Documents.{GiveAll, kind_added, kinds_stop}
use Rattle.resource_text.proofs.document.resources_in.Goals as goal

pub returns-in_err-add_kind : goal.returns-in_err-add_kind
returns-in_err-add_kind c =
    let all = table_view c.args.table.now in
    let i = c.loop-kind.kind-index in
    let kind = get_or all_kinds i kinds.Policy in
    let left : drop i all_kinds ≡ kind ∷ drop (i + 1) all_kinds =
    drop_more all_kinds i kinds.Policy c.loop-kind-test.true in
    let p = err_from_is_err_and c.from_residual-in_err-add_kind.result c.from_residual-in_err-add_kind.ensures.1 in
    rw (p.1, p.2) (kinds_stop all kind (drop (i + 1) all_kinds) c.loop-kind.resources.items c.add_kind.new.resources.items
    c.in_err-add_kind.field-0.0 (subst (λ rest. GiveAll all rest c.loop-kind.resources.items) left c.loop-kind.invariant)
    c.in_ok-know_keys.ensures c.in_err-add_kind.ensures)

pub loop-kind-preserved : goal.loop-kind-preserved
loop-kind-preserved c =
    let all = table_view c.args.table.now in
    let i = c.loop-kind.kind-index in
    let kind = get_or all_kinds i kinds.Policy in
    let left : drop i all_kinds ≡ kind ∷ drop (i + 1) all_kinds =
    drop_more all_kinds i kinds.Policy c.loop-kind-test.true in
    kind_added all kind (drop (i + 1) all_kinds) c.loop-kind.resources.items c.add_kind.new.resources.items
    (subst (λ rest. GiveAll all rest c.loop-kind.resources.items) left c.loop-kind.invariant) c.in_ok-add_kind.ensures

pub returns : goal.returns
returns c =
    let all = table_view c.args.table.now in
    let items = c.loop-kind.resources.items in
    inl (
      c.in_ok-know_keys.ensures,
      c.loop-kind.invariant (Ok items)
          (subst (λ rest. kinds_give rest all items (Ok items)) (sym (drop_of_length-le all_kinds c.loop-kind-test.false)) refl),
    )
