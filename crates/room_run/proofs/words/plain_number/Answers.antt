use Rattle.std.proofs.Common.{◌≡◌, true, nat_eq, sym, ap, ◌∙◌}
use Rattle.std.proofs.lemmas.Bool.{false≢true}
use Rattle.std.specs.Prelude.{decimal}
use Rattle.std.specs.Cmp.Lexicographic.{pointwise, nat_list_eq_equiv}
use Rattle.room_run.proofs.Numbers.{no_number, only_number}
use Rattle.room_run.proofs.words.plain_number.Goals as goal

pub returns-in_err-number : goal.returns-in_err-number
returns-in_err-number c = rw c.from_residual.ensures
    (λ number fits. no_number c.args.word.now c.parse.result number c.parse.ensures.value.0 (sym c.in_err-number.ensures.value) fits)

pub returns-else-eq : goal.returns-else-eq
returns-else-eq c = λ other fits named.
    let same : c.in_ok-number.number ≡ other =
    only_number c.args.word.now c.parse.result c.in_ok-number.number other c.parse.ensures.value.0 (sym c.in_ok-number.ensures.value) fits named in
    let shown : c.format.result.now ≡ c.args.word.now = c.format.ensures.text ∙ ap decimal same ∙ sym named in
    let equal : c.eq.result ≡ true = c.eq.ensures ∙ ap (λ text. pointwise nat_eq text c.args.word.now) shown ∙ nat_list_eq_equiv.refl c.args.word.now in
    absurd (false≢true (sym c.if-eq.false ∙ equal))
