use Rattle.std.proofs.Common.{ℕ, MatchOption, subst, rules, arith}
use Rattle.std.proofs.lemmas.Option.{slice_get-get_or}
use Rattle.resource_text.specs.Days.{IsDayText}
use Rattle.resource_text.proofs.Dates.{day_of_parts}
use Rattle.resource_text.proofs.days.day_of.Goals as goal

pub returns : goal.returns
returns c =
    subst (λ text. MatchOption c.day_from.result ((day : ℕ) → ¬ (IsDayText text day)) (IsDayText text))
    c.as_bytes-text.ensures.value
    (day_of_parts c.as_bytes-text.result.now c.in_ok-year.year c.in_ok-month.month c.in_ok-number.number
    (search rules) c.in_ok-year.ensures.number (search (rules, arith, slice_get-get_or)) c.in_ok-month.ensures.number
    (search (rules, arith, slice_get-get_or)) c.in_ok-number.ensures.number c.day_from.result c.day_from.ensures)
