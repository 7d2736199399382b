use Rattle.std.proofs.Common.{arith}
use Rattle.jiff_core.proofs.CalendarLemmas.{days_in_month_bounds}
use Rattle.jiff_core.proofs.SignedLemmas.{signed_arith}
use Rattle.sched_levels.proofs.Dates.{date_in_month}
use Rattle.sched_levels.proofs.calendar.days_behind_first.Goals as goal

pub returns : goal.returns
returns c =
    let date = c.date_of.result in
    let place = date_in_month date c.args.day c.date_of.ensures in
    let most = days_in_month_bounds date.year date.month in
    omega (arith, signed_arith, place, most, date.day_in)
