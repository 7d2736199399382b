use Rattle.std.proofs.Common.{◌∙◌, arith, ◌+ℤ◌, FitsSigned, w64}
use Rattle.std.proofs.lemmas.Int.{to_z-of_z}
use Rattle.jiff.specs.Words.{epoch_day, IsEpochDay}
use Rattle.jiff.proofs.SpanFacts.{signed_arith, date_add-days, can_add-days}
use Rattle.sched_levels.proofs.Dates.{first_day}
use Rattle.sched_levels.proofs.calendar.date_of.Goals as goal

pub add-requires : goal.add-requires
add-requires c =
    let fits : FitsSigned w64 c.from.result = omega (arith, signed_arith) in
    let only = simp to_z-of_z at c.days.ensures in
    let first = first_day c.date.result c.date.ensures in
    let day : IsEpochDay (epoch_day c.date.result +ℤ c.from.result) = rw (first, c.from.ensures)
    (omega (arith, signed_arith)) in
    (can_add-days c.date.result c.from.result c.days.result only).1 day

pub returns : goal.returns
returns c =
    let fits : FitsSigned w64 c.from.result = omega (arith, signed_arith) in
    let only = simp to_z-of_z at c.days.ensures in
    let first = first_day c.date.result c.date.ensures in
    c.add.ensures ∙ (date_add-days c.date.result c.from.result c.days.result only
    ∙ rw (first, c.from.ensures) (omega (arith, signed_arith)))
