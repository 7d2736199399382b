-- The calendar from 1970 on: where a day stands in its week and in its month.
use Rattle.std.specs.Prelude.{ℕ, zero, suc, ◌+◌, ◌-◌, ◌%◌, ◌==◌, Bool, not, ◌&&◌, ◌||◌}
use Rattle.std.specs.Prelude.{if◌then◌else◌, nat_lt, ◌≡◌, ◌<◌, List, [], ◌∷◌, ◌++◌}
use Rattle.std.specs.List.{sum}

-- the last day that is asked of, 31 December 9998
abbrev pub last_day : ℕ
last_day = 2932531

-- the days of the week behind Sunday; day 0 was a Thursday
abbrev pub day_of_week : ℕ → ℕ
day_of_week day = (day + 4) % 7

-- every fourth year, but of the centuries only every fourth
abbrev pub is_leap_year : ℕ → Bool
is_leap_year year = (year % 4 == 0) && (not (year % 100 == 0) || (year % 400 == 0))

-- the days of each month of a year
abbrev pub month_lengths : ℕ → List ℕ
month_lengths year =
    31 ∷ (if is_leap_year year then 29 else 28) ∷ 31 ∷ 30 ∷ 31 ∷ 30
    ∷ 31 ∷ 31 ∷ 30 ∷ 31 ∷ 30 ∷ 31 ∷ []

-- the days of each month of so many years, from a year on
unfoldable pub months_from : ℕ → ℕ → List ℕ
months_from year zero = []
months_from year (suc years) = month_lengths year ++ months_from (year + 1) years

-- the days of its month before a day, where months of these lengths begin with day 0
unfoldable pub days_into : List ℕ → ℕ → ℕ
days_into [] day = day
days_into (month ∷ months) day =
    if nat_lt day month then day else days_into months (day - month)

-- a day is that many days into one of these months, of which the first begins with day 0
pub record IsInto (months : List ℕ) (day into : ℕ) : Type 0 where
  pub before : List ℕ
  pub month : ℕ
  pub after : List ℕ
  pub are : months ≡ before ++ month ∷ after
  pub day_is : day ≡ sum before + into
  pub within : into < month

-- the days of its month before a day; the months are those of the years 1970 to 9999
abbrev pub day_of_month : ℕ → ℕ
day_of_month day = days_into (months_from 1970 8030) day
