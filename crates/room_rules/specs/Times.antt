-- How long policies keep what they are for.
use Rattle.std.specs.Prelude.{ℕ, ◌*◌}
use Rattle.room_rules.specs.declared.policy.Unit.{Unit}
use Rattle.room_rules.specs.declared.policy.Unit.TheVariants as units

abbrev pub day_seconds : ℕ
day_seconds = 86400

-- a week has 7 days, a month 31, a year 366
abbrev pub unit_seconds : Unit → ℕ
unit_seconds units.Days = day_seconds
unit_seconds units.Weeks = 7 * day_seconds
unit_seconds units.Months = 31 * day_seconds
unit_seconds units.Years = 366 * day_seconds
