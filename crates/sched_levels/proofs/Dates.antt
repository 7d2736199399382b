-- The calendar of `jiff`, from 1970 on.
use Rattle.std.proofs.Common.{◌≡◌, ℕ, zero, suc, ◌+◌, ◌-◌, ◌%◌, ◌<◌, Bool, true, false, cond, List}
use Rattle.std.proofs.Common.{[], ◌∷◌, get_or, take, sum, refl, subst, arith, pos, ◌+ℤ◌, ◌≤ℤ◌}
use Rattle.std.proofs.Common.{unsigned_abs}
use Rattle.std.proofs.lemmas.Int.{by_lt_z}
use Rattle.std.proofs.lemmas.List.Sums.{sum_by_more, sum_by-append}
use Rattle.jiff_core.specs.declared.civil.date.Date.{Date}
use Rattle.jiff_core.specs.Calendar.{days_of_years, days_of_months, days_in_month, day_count}
use Rattle.jiff_core.specs.Calendar.{IsCivilDate}
use Rattle.jiff_core.specs.Date.{epoch_day, weekday_of, IsYmd}
use Rattle.jiff_core.proofs.SignedLemmas.{signed_arith}
use Rattle.jiff_core.proofs.MarchLemmas.{leap_day, leap_day-shift, days_of_years-suc}
use Rattle.jiff_core.proofs.CalendarLemmas.{day_count-epoch, days_from_civil-day_count}
use Rattle.jiff_core.proofs.CalendarLemmas.{day_count-day_of_year, day_count-lt_year}
use Rattle.jiff_core.proofs.CalendarLemmas.{days_of_months-zero, days_of_months_more}
use Rattle.jiff_core.proofs.CalendarLemmas.{weekday_number-parts}
use Rattle.sched_levels.specs.Calendar.{is_leap_year, month_lengths, months_from, days_into}
use Rattle.sched_levels.specs.Calendar.{day_of_month, day_of_week}
use Rattle.sched_levels.proofs.Months.{month_day}
use borrow.Author.Differences.{up, down}

-- 1 January 1970 is day 0
pub first_day : (d : Date) → IsYmd (pos 1970) (pos 1) (pos 1) d → epoch_day d ≡ pos 0
first_day d is =
    let month : d.month ≡ 1 = omega (arith, signed_arith, is.1) in
    let day : d.day ≡ 1 = omega (arith, signed_arith, is.2) in
    rw (is.0, month, day) (omega (
      arith,
      signed_arith,
      days_from_civil-day_count (pos 1970) 1 1,
      day_count-epoch,
    ))

pub weekday : (d : Date) (day : ℕ) → epoch_day d ≡ pos day → (weekday_of d + 1) % 7
    ≡ day_of_week day
weekday d day e = omega (arith, signed_arith, weekday_number-parts (epoch_day d))

length_of : (year month : ℕ) → month < 12 → days_in_month (pos year) (month + 1)
    ≡ get_or (month_lengths year) month 0
length_of year zero h = refl
length_of year (suc zero) h = refl
length_of year (suc (suc zero)) h = refl
length_of year (suc (suc (suc zero))) h = refl
length_of year (suc (suc (suc (suc zero)))) h = refl
length_of year (suc (suc (suc (suc (suc zero))))) h = refl
length_of year (suc (suc (suc (suc (suc (suc zero)))))) h = refl
length_of year (suc (suc (suc (suc (suc (suc (suc zero))))))) h = refl
length_of year (suc (suc (suc (suc (suc (suc (suc (suc zero)))))))) h = refl
length_of year (suc (suc (suc (suc (suc (suc (suc (suc (suc zero))))))))) h = refl
length_of year (suc (suc (suc (suc (suc (suc (suc (suc (suc (suc zero)))))))))) h = refl
length_of year (suc (suc (suc (suc (suc (suc (suc (suc (suc (suc (suc zero))))))))))) h = refl
length_of year (suc (suc (suc (suc (suc (suc (suc (suc (suc (suc (suc (suc month)))))))))))) h =
    absurd (omega arith)

-- the days of a year's months before one
months_before : (year month : ℕ) → month < 12 → days_of_months (pos year) month
    ≡ sum (take month (month_lengths year))
months_before year zero h = days_of_months-zero (pos year)
months_before year (suc month) h =
    let months : List ℕ = month_lengths year in
    let next : month + 1 ≡ suc month = omega arith in
    let back : month + 1 - 1 ≡ month = omega arith in
    let more = rw back at (days_of_months_more (pos year) (month + 1) (omega arith)) in
    let here : days_of_months (pos year) (month + 1) ≡ sum (take (month + 1) months) =
    omega (
      arith,
      more,
      months_before year month (omega arith),
      length_of year month (omega arith),
      sum_by_more (λ (x : ℕ). x) months month 0 (omega arith),
    ) in
    subst (λ (n : ℕ). days_of_months (pos year) n ≡ sum (take n months)) next here

year_sum : (leap : Bool) → sum (31 ∷ cond leap 29 28 ∷ 31 ∷ 30 ∷ 31 ∷ 30 ∷ 31 ∷ 31 ∷ 30 ∷ 31 ∷ 30 ∷
    31 ∷ []) ≡ 365 + cond leap 1 0
year_sum true = refl
year_sum false = refl

year_days : (year n : ℕ) → n ≡ year + 10000 → days_of_years (n + 1)
    ≡ days_of_years n + sum (month_lengths year)
year_days year n e =
    let next : n + 1 ≡ suc n = omega arith in
    let shift : leap_day (pos year) ≡ leap_day (pos n) = leap_day-shift (pos year) n
    (omega (arith, signed_arith)) in
    let whole : sum (month_lengths year) ≡ 365 + leap_day (pos year) = year_sum
    (is_leap_year year) in
    rw (next, whole) (omega (arith, days_of_years-suc n))

months_none : (year : ℕ) → sum (months_from year 0) ≡ 0
unfolding months_from
months_none year = refl

months_one_more : (year k : ℕ) → sum (months_from year (suc k))
    ≡ sum (month_lengths year) + sum (months_from (year + 1) k)
unfolding months_from
months_one_more year k = sum_by-append (λ (x : ℕ). x) (month_lengths year)
    (months_from (year + 1) k)

-- the days of years are those of their months
years_days : (year k n m : ℕ) → n ≡ year + 10000 → m ≡ n + k → days_of_years m
    ≡ days_of_years n + sum (months_from year k)
years_days year zero n m e f =
    let same : m ≡ n = omega arith in rw (same, months_none year) (omega arith)
years_days year (suc k) n m e f =
    rw (months_one_more year k)
    (omega (
      arith,
      years_days (year + 1) k (n + 1) m (omega arith) (omega arith),
      year_days year n
          e,
    ))

-- the day count of a year's first day
year_first : (year n : ℕ) → n ≡ year + 10000 → day_count (pos year) 1 1 ≡ days_of_years n
unfolding day_count
year_first year n e =
    let here : unsigned_abs (pos year +ℤ pos 10000) ≡ n = omega (arith, signed_arith) in
    rw here (omega (arith, days_of_months-zero (pos year)))

-- a day of a month of a year from 1970 on
day_is : (k month passed day : ℕ) → month < 12 → day_count (pos (1970 + k)) (month + 1) (passed + 1)
    ≡ day + 4371953 → day ≡ sum (months_from 1970 k)
    + (sum (take month (month_lengths (1970 + k))) + passed)
day_is k month passed day low count =
    let year : ℕ = 1970 + k in
    let back : month + 1 - 1 ≡ month = omega arith in
    let parts = rw back at (day_count-day_of_year (pos year) (month + 1) (passed + 1)
    (omega arith)) in
    omega (
      arith,
      parts,
      day_count-epoch,
      count,
      year_first 1970 11970 (omega arith),
      year_first
          year (year + 10000) (omega arith),
      years_days 1970 k 11970 (year + 10000) (omega arith)
          (omega arith),
      months_before year month low,
    )

placed : (k month passed day : ℕ) → k < 8030 → month < 12
    → passed < days_in_month (pos (1970 + k)) (month + 1)
    → day_count (pos (1970 + k)) (month + 1) (passed + 1) ≡ day + 4371953 → day_of_month day
    ≡ passed
placed k month passed day years low high count =
    let all : k + suc (8029 - k) ≡ 8030 = omega arith in
    let before : passed < get_or (month_lengths (1970 + k)) month 0 = rw
    (← length_of (1970 + k) month low) high in
    rw (day_is k month passed day low count)
    (subst (λ (n : ℕ). days_into (months_from 1970 n)
    (sum (months_from 1970 k) + (sum (take month (month_lengths (1970 + k))) + passed))
    ≡ passed) all (month_day 1970 k (8029 - k) month passed low before))

-- the days of a month before a date
pub date_in_month : (d : Date) (day : ℕ) → epoch_day d ≡ pos day → day_of_month day + 1 ≡ d.day
date_in_month d day e =
    let civil : IsCivilDate d.year d.month d.day = (d.year_in, d.month_in, d.day_in) in
    let count : day_count d.year d.month d.day
    ≡ day + 4371953 = omega (
      arith,
      signed_arith,
      days_from_civil-day_count d.year d.month
          d.day,
      e,
    ) in
    let late : pos 1970 ≤ℤ d.year = by_lt_z d.year (pos 1970)
    (λ lt. absurd (omega (
      arith,
      day_count-lt_year d.year d.month d.day (pos 1970) 1 1 civil
          (omega arith) lt,
      day_count-epoch,
      count,
    )))
    (λ ge. ge) in
    let k : ℕ = up d.year - down d.year - 1970 in
    let year : d.year ≡ pos (1970 + k) = omega (arith, signed_arith) in
    let month : d.month - 1 + 1 ≡ d.month = omega (arith, d.month_in) in
    let passed : d.day - 1 + 1 ≡ d.day = omega (arith, d.day_in) in
    let length = rw (year, ← month) at (d.day_in.1) in
    let counted = rw (year, ← month, ← passed) at count in
    omega (
      arith,
      passed,
      placed k (d.month - 1) (d.day - 1) day
          (omega (arith, signed_arith, d.year_in)) (omega (arith, d.month_in))
          (omega (arith, length, d.day_in)) counted,
    )
