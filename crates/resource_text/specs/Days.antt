-- Days that are written as YYYY-MM-DD.
use Rattle.std.specs.Prelude.{◌≡◌, ℕ, ◌+◌, ◌*◌, ◌-◌, ◌≤◌, List, [], ◌∷◌, length, take, drop, pos}
use Rattle.std.specs.Prelude.{slice_get, Some}
use Rattle.std.specs.List.{AllByRecursion}
use Rattle.jiff_core.specs.Date.{IsYmd, epoch_day}
use Rattle.jiff_core.specs.declared.civil.date.Date.{Date}
use Rattle.catalog_change.specs.Resources.{max_day}

abbrev pub IsDigit : ℕ → Type 0
IsDigit byte = (48 ≤ byte) × (byte ≤ 57)

-- the number of some digits, behind those that stand for this number
abbrev pub digits_from : ℕ → List ℕ → ℕ
digits_from number [] = number
digits_from number (digit ∷ digits) = digits_from (number * 10 + (digit - 48)) digits

-- digits stand for a number
abbrev pub IsDecimal : List ℕ → ℕ → Type 0
IsDecimal digits number = AllByRecursion IsDigit digits × (number ≡ digits_from 0 digits)

-- a day, counted from 1970-01-01, of a year, a month and a number in it
pub record IsDay (year month number day : ℕ) : Type 0 where
  pub date : Date
  pub date_is : IsYmd (pos year) (pos month) (pos number) date
  pub day_is : epoch_day date ≡ pos day
  pub last : day ≤ max_day

-- The text of a day: four digits of the year, two of the month and two of the day, with hyphens
-- between them, of a date that there is.
pub record IsDayText (text : List ℕ) (day : ℕ) : Type 0 where
  pub year : ℕ
  pub month : ℕ
  pub number : ℕ
  pub length : length text ≡ 10
  pub year_is : IsDecimal (take 4 text) year
  pub first_hyphen : slice_get text 4 ≡ Some 0x2D
  pub month_is : IsDecimal (take 2 (drop 5 text)) month
  pub second_hyphen : slice_get text 7 ≡ Some 0x2D
  pub number_is : IsDecimal (take 2 (drop 8 text)) number
  pub day_is : IsDay year month number day
