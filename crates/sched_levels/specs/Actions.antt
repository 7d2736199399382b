-- What a schedule says of a day.
use Rattle.std.specs.Prelude.{◌≢◌, ℕ, ◌%◌, List, [], length, Option, Some, None}
use Rattle.std.specs.List.{slice_index}
use Rattle.std.specs.Ordering.{nat_cmp}
use Rattle.room_base.specs.Ordered.{Ascends, find_by}
use Rattle.room_rules.specs.declared.schedule.Override.{Override}
use Rattle.room_rules.specs.declared.schedule.Period.{Period}
use Rattle.room_rules.specs.declared.schedule.Period.TheVariants.{Week, Month}
use Rattle.room_rules.specs.declared.schedule.Schedule.{Schedule}
use Rattle.sched_levels.specs.Calendar.{day_of_week, day_of_month}

abbrev pub day_of : Override → ℕ
day_of override = override.day

-- the days ascend strictly
abbrev pub OverridesAscend : List Override → Type 0
OverridesAscend overrides = Ascends nat_cmp day_of overrides

-- the schedule has an action, and its overrides ascend
pub record DecidesEachDay (schedule : Schedule) : Type 0 where
  pub actions : schedule.actions ≢ []
  pub overrides : OverridesAscend schedule.overrides

-- the override of the day, where there is one
abbrev pub override_on : List Override → ℕ → Option Override
override_on overrides day = find_by nat_cmp day_of day overrides

-- the days of its week or month before a day
abbrev pub place_in : Period → ℕ → ℕ
place_in Week day = day_of_week day
place_in Month day = day_of_month day

-- the action that this override, if it is one, has instead of another
abbrev pub overridden : Option Override → ℕ → ℕ
overridden None action = action
overridden (Some override) action = override.action

-- The action of a day: that of its override, else the one at its place in the week or the month,
-- where the actions are gone over again and again.
abbrev pub action_on : Schedule → ℕ → ℕ
action_on schedule day = overridden (override_on schedule.overrides day)
    (slice_index schedule.actions (place_in schedule.period day % length schedule.actions))
