use Rattle.std.proofs.Common.{sym, ◌∙◌, length, arith}
use Rattle.std.proofs.lemmas.Bool.{eqb-true}
use Rattle.catalog_spelling.proofs.Decodes.{decoded-text, change-ends-within, change-ends-bad, change-stops-within, change-stops-bad, some-from}
use Rattle.catalog_text.proofs.decode.decode_change.Goals as goal

pub bad-requires : goal.bad-requires
bad-requires c = change-ends-within c.args.bytes.now _ c.in-Ok.rest.now (λ i. omega (arith, c.type_inv.bytes i)) c.in-Ok.ensures

pub returns-then-not-is_empty : goal.returns-then-not-is_empty
returns-then-not-is_empty c =
    rw c.bad.ensures
    (change-ends-bad c.args.bytes.now _ c.in-Ok.rest.now (λ i. omega (arith, c.type_inv.bytes i)) c.in-Ok.ensures
    (some-from (length c.in-Ok.rest.now) (sym c.is_empty.ensures ∙ c.if-not-is_empty.true)))

pub bad-requires-in-Err-Bad : goal.bad-requires-in-Err-Bad
bad-requires-in-Err-Bad c = change-stops-within c.args.bytes.now c.in-Err-Bad.behind (λ i. omega (arith, c.type_inv.bytes i)) (rw c.in-Err-Bad.field-0-is at c.in-Err-Bad.ensures)

pub returns-else-not-is_empty : goal.returns-else-not-is_empty
returns-else-not-is_empty c =
    decoded-text c.args.bytes.now _ c.in-Ok.rest.now (λ i. omega (arith, c.type_inv.bytes i)) c.in-Ok.ensures
    (eqb-true (length c.in-Ok.rest.now) 0 (sym c.is_empty.ensures ∙ c.if-not-is_empty.false))

pub returns-in-Err-Bad : goal.returns-in-Err-Bad
returns-in-Err-Bad c =
    rw c.bad-in-Err-Bad.ensures
    (change-stops-bad c.args.bytes.now c.in-Err-Bad.behind (λ i. omega (arith, c.type_inv.bytes i)) (rw c.in-Err-Bad.field-0-is at c.in-Err-Bad.ensures))
