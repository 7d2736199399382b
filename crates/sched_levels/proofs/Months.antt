-- Where a day stands among months that follow each other.
use Rattle.std.proofs.Common.{◌≡◌, ℕ, zero, suc, ◌+◌, ◌-◌, ◌<◌, List, [], ◌∷◌, ◌++◌, length, get_or}
use Rattle.std.proofs.Common.{inl, inr, sym, ap}
use Rattle.std.proofs.Common.{take, sum, refl, ◌∙◌, subst, arith}
use Rattle.std.proofs.lemmas.Bool.{cases_lt}
use Rattle.std.proofs.lemmas.Bool.Decides.{nat_tests}
use Rattle.std.proofs.lemmas.List.Sums.{sum_by-cons}
use Rattle.sched_levels.specs.Calendar.{IsInto, month_lengths, months_from, days_into}

-- a day of the first month
within : (month : ℕ) (months : List ℕ) (day : ℕ) → day < month → days_into (month ∷ months) day
    ≡ day
unfolding days_into
within month months day h = grind (arith, nat_tests)

-- a day behind the first month
past : (month : ℕ) (months : List ℕ) (day rest : ℕ) → day ≡ month + rest
    → days_into (month ∷ months) day ≡ days_into months rest
unfolding days_into
past month months day rest e =
    let less : day - month ≡ rest = omega arith in
    let whole : days_into (month ∷ months) day
    ≡ days_into months (day - month) = grind (arith, nat_tests) in
    subst (λ (n : ℕ). days_into (month ∷ months) day ≡ days_into months n) less whole

-- a day behind all of some months is in those after them
behind : (before after : List ℕ) (day : ℕ) → days_into (before ++ after) (sum before + day)
    ≡ days_into after day
behind [] after day = let e : 0 + day ≡ day = omega arith in rw e refl
behind (month ∷ before) after day =
    past month (before ++ after) _ (sum before + day)
    (omega (arith, sum_by-cons (λ (x : ℕ). x) month before))
    ∙ behind before after day

-- a day of one of the first months
among : (months more : List ℕ) (month day : ℕ) → month < length months → day < get_or months month 0
    → days_into (months ++ more) (sum (take month months) + day) ≡ day
among [] more month day low high = absurd (omega arith)
among (first ∷ months) more zero day low high = let e : 0 + day
    ≡ day = omega arith in rw e (within first (months ++ more) day high)
among (first ∷ months) more (suc month) day low high =
    past first (months ++ more) _ (sum (take month months) + day)
    (omega (arith, sum_by-cons (λ (x : ℕ). x) first (take month months)))
    ∙ among months more month day (omega arith) high

-- the months of years are those of the first years and of the others
months_split : (year k more : ℕ) → months_from year (k + more)
    ≡ months_from year k ++ months_from (year + k) more
unfolding months_from
months_split year zero more = let e : 0 + more ≡ more = omega arith in let f : year + 0
    ≡ year = omega arith in rw (e, f) refl
months_split year (suc k) more =
    let e : suc k + more ≡ suc (k + more) = omega arith in
    let f : year + suc k ≡ year + 1 + k = omega arith in
    rw (e, f, months_split (year + 1) k more) refl

months_next : (year more : ℕ) → months_from year (suc more)
    ≡ month_lengths year ++ months_from (year + 1) more
unfolding months_from
months_next year more = refl

-- a day of a month of one of the years, behind the first of the month
pub month_day : (year k more month day : ℕ) → month < 12
    → day < get_or (month_lengths (year + k)) month 0
    → days_into (months_from year (k + suc more))
    (sum (months_from year k) + (sum (take month (month_lengths (year + k))) + day)) ≡ day
month_day year k more month day low high =
    let months : List ℕ = month_lengths (year + k) in
    let last : List ℕ = months_from (year + k + 1) more in
    let here : ℕ = sum (take month months) + day in
    rw (months_split year k (suc more), months_next (year + k) more)
    (behind (months_from year k) (months ++ last) here ∙ among months last month day low high)

-- the place of a day behind the first month
later : (first : ℕ) (months : List ℕ) (day rest into : ℕ) → day ≡ first + rest
    → IsInto months rest into → IsInto (first ∷ months) day into
later first months day rest into e is = record {
  before = first ∷ is.before;
  month = is.month;
  after = is.after;
  are = ap (λ (others : List ℕ). first ∷ others) is.are;
  day_is = omega (arith, e, is.day_is, sum_by-cons (λ (x : ℕ). x) first is.before);
  within = is.within;
}

pub found : (months : List ℕ) (day : ℕ) → day < sum months
    → IsInto months day (days_into months day)
found [] day below = absurd (omega arith)
found (first ∷ months) day below = elim (cases_lt day first) [
  | inl here ↦ rw (within first months day here) (record {
    before = [];
    month = first;
    after = months;
    are = refl;
    day_is = omega arith;
    within = here;
  })
  | inr above ↦
      let rest : ℕ = day - first in
      let e : day ≡ first + rest = omega (arith, above) in
      let less : rest < sum months = omega (arith, above, below, sum_by-cons (λ (x : ℕ). x) first months) in
      rw (past first months day rest e) (later first months day rest (days_into months rest) e (found months rest less))
]

pub only : (months : List ℕ) (day into : ℕ) → IsInto months day into
    → into ≡ days_into months day
only months day into is =
    rw (is.are, is.day_is)
    (sym (behind is.before (is.month ∷ is.after) into ∙ within is.month is.after into is.within))
