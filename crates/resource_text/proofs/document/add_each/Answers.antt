use Rattle.std.proofs.Common.{◌≡◌, ◌∷◌, Ok, Err, arith, string_bytes, subst}
use Rattle.std.proofs.lemmas.Grind.{common_steps}
use Rattle.std.proofs.lemmas.Result.{err_from_is_err_and}
use Rattle.toml.proofs.Views.{Entry}
use Rattle.toml.specs.View.{view}
use Rattle.resource_text.specs.Reading.{Reads}
use Rattle.resource_text.specs.Resources.{resource_gives}
use Rattle.resource_text.proofs.Documents.{EachGives, each_added, each_stops}
use Rattle.resource_text.proofs.document.add_each.Goals as goal

pub returns-in_err-resource_of : goal.returns-in_err-resource_of
returns-in_err-resource_of c =
    let (can, finite, so) = c.names.invariant in
    let all = c.args.members.now.entries in
    let old = c.args.resources.now.items in
    let e : Entry = (c.in-Some.name.now, c.in-Some.value.now) in
    let iter : c.names.name-iterator ≡ e ∷ c.next.new.self = grind (arith, common_steps) in
    let fault = c.in_err-resource_of.field-0.0 in
    let p = err_from_is_err_and c.from_residual.result c.from_residual.ensures.1 in
    let gives : Reads (resource_gives c.args.kind (string_bytes e.0) (view e.1)) (Err fault) =
    subst (λ key. Reads (resource_gives c.args.kind key (view e.1)) (Err fault)) c.as_str.ensures.value c.in_err-resource_of.ensures in
    rw (p.1, p.2) (each_stops c.args.kind all old c.next.new.self e c.names.resources.items c.names.resources.items fault
    (subst (λ rest. EachGives c.args.kind all old rest c.names.resources.items) iter so) gives)

pub names-preserved : goal.names-preserved
names-preserved c =
    let (can, finite, so) = c.names.invariant in
    let all = c.args.members.now.entries in
    let old = c.args.resources.now.items in
    let e : Entry = (c.in-Some.name.now, c.in-Some.value.now) in
    let iter : c.names.name-iterator ≡ e ∷ c.next.new.self = grind (arith, common_steps) in
    let one = c.in_ok-resource_of.field-0 in
    let gives : Reads (resource_gives c.args.kind (string_bytes e.0) (view e.1)) (Ok one) =
    subst (λ key. Reads (resource_gives c.args.kind key (view e.1)) (Ok one)) c.as_str.ensures.value c.in_ok-resource_of.ensures in (
      tt,
      tt,
      each_added c.args.kind all old c.next.new.self e c.names.resources.items c.push.new.self.items one
          (subst (λ rest. EachGives c.args.kind all old rest c.names.resources.items) iter so) gives c.in_ok-push.ensures.items,
    )
