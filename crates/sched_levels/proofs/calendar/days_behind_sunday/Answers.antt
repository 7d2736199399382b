use Rattle.std.proofs.Common.{arith}
use Rattle.jiff.proofs.SpanFacts.{signed_arith}
use Rattle.sched_levels.proofs.Dates.{weekday}
use Rattle.sched_levels.proofs.calendar.days_behind_sunday.Goals as goal

pub returns : goal.returns
returns c =
    let place = weekday c.date_of.result c.args.day c.date_of.ensures in
    omega (arith, signed_arith, place)
