-- Words of resources: levels, actions, periods and units.
use Rattle.std.specs.Prelude.{◌≡◌, ◌⊎◌, ℕ, ◌+◌, ◌≤◌, List, [], ◌∷◌, codes}
use Rattle.room_rules.specs.declared.policy.Unit.{Unit as PolicyUnit}
use Rattle.room_rules.specs.declared.policy.Unit.TheVariants as units
use Rattle.room_rules.specs.declared.schedule.Period.{Period}
use Rattle.room_rules.specs.declared.schedule.Period.TheVariants as periods

-- the word of a level: `full` is 0, `1` to `9` are these numbers, and `incr` is 10
abbrev pub IsLevelWord : List ℕ → ℕ → Type 0
IsLevelWord word rank =
    ((word ≡ codes "full") × (rank ≡ 0)) ⊎ ((word ≡ codes "incr") × (rank ≡ 10))
    ⊎ ((1 ≤ rank) × (rank ≤ 9) × (word ≡ (48 + rank) ∷ []))

-- the word of an action: that of a level, or `skip`, which is 11
abbrev pub IsActionWord : List ℕ → ℕ → Type 0
IsActionWord word action = IsLevelWord word action ⊎ ((word ≡ codes "skip") × (action ≡ 11))

abbrev pub unit_word : PolicyUnit → List ℕ
unit_word units.Days = codes "days"
unit_word units.Weeks = codes "weeks"
unit_word units.Months = codes "months"
unit_word units.Years = codes "years"

abbrev pub period_word : Period → List ℕ
period_word periods.Week = codes "week"
period_word periods.Month = codes "month"
