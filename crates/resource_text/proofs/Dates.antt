-- A text is that of a day where its parts are those of one.
use Rattle.std.specs.Int.{FitsUnsignedBits}
use Rattle.std.proofs.Common.{◌≡◌, ℕ, ℤ, pos, negsuc, unsigned_abs, ap, List, length, take, drop, slice_get, Option, Some, None, MatchOption, sym, subst, ◌∙◌}
use Rattle.resource_text.specs.Days.{IsDay, IsDayText, IsDecimal}

-- digits stand for one number
pub decimal_one : (digits : List ℕ) (one other : ℕ) → IsDecimal digits one → IsDecimal digits other → one ≡ other
decimal_one digits one other (_, is) (_, same) = is ∙ sym same

pub day_of_parts : (text : List ℕ) (year month number : ℕ) → length text ≡ 10
    → IsDecimal (take 4 text) year → slice_get text 4 ≡ Some 0x2D → IsDecimal (take 2 (drop 5 text)) month
    → slice_get text 7 ≡ Some 0x2D → IsDecimal (take 2 (drop 8 text)) number
    → (result : Option ℕ) → MatchOption result ((day : ℕ) → ¬ (IsDay year month number day)) (IsDay year month number)
    → MatchOption result ((day : ℕ) → ¬ (IsDayText text day)) (IsDayText text)
day_of_parts text year month number size years first months second numbers None none = λ day is.
    none day (subst (λ y. IsDay y month number day) (decimal_one (take 4 text) is.year year is.year_is years)
    (subst (λ m. IsDay is.year m number day) (decimal_one (take 2 (drop 5 text)) is.month month is.month_is months)
    (subst (λ n. IsDay is.year is.month n day) (decimal_one (take 2 (drop 8 text)) is.number number is.number_is numbers) is.day_is)))
day_of_parts text year month number size years first months second numbers (Some day) is = record {
  year = year;
  month = month;
  number = number;
  length = size;
  year_is = years;
  first_hyphen = first;
  month_is = months;
  second_hyphen = second;
  number_is = numbers;
  day_is = is;
}

-- a number that fits without a sign is its own size
pub natural_day : (z : ℤ) (day : ℕ) → FitsUnsignedBits 32 z → day ≡ unsigned_abs z → z ≡ pos day
natural_day (pos n) day fits is = ap pos (sym is)
natural_day (negsuc n) day fits is = elim fits [ ]
