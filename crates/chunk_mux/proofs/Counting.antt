-- Quotients that are rounded up.
use Rattle.std.proofs.Common.{◌≡◌, ℕ, suc, ◌+◌, ◌-◌, ◌*◌, ◌≤◌, ◌<◌, arith, inl, inr}
use Rattle.std.proofs.lemmas.Bool.{cases_lt}
use Rattle.std.proofs.lemmas.Grind.{div_ceil_times}
use Rattle.std.proofs.Math.Nat.{mul-le-mul_right, suc-mul, mul_comm}
use Rattle.std.specs.Int.{div_ceil}

-- so many parts of `most` are as few as hold `size`
pub record AreLeast (most count size : ℕ) : Type 0 where
  pub enough : size ≤ count * most
  pub no_more : count * most < size + most

pub least_ceil : (size most : ℕ) → 1 ≤ most → AreLeast most (div_ceil size most) size
least_ceil size most some =
    let times = div_ceil_times size most some in
    record { enough = times.0; no_more = times.1 }

not_below : (most one other size : ℕ) → AreLeast most one size → AreLeast most other size → one < other → ⊥
not_below most one other size is are below =
    let step : suc one * most ≤ other * most = mul-le-mul_right most below in
    omega (arith, step, suc-mul one most, is.enough, are.no_more)

pub least_is_one : (most one other size : ℕ) → AreLeast most one size → AreLeast most other size → one ≡ other
least_is_one most one other size is are =
    elim (cases_lt one other) [
      | inl below ↦ absurd (not_below most one other size is are below)
      | inr above ↦
          elim (cases_lt other one) [
            | inl below ↦ absurd (not_below most other one size are is below)
            | inr same ↦ omega arith
          ]
    ]

pub ceil_none : (size most : ℕ) → 1 ≤ most → size ≡ 0 → div_ceil size most ≡ 0
ceil_none size most some none =
    least_is_one most (div_ceil size most) 0 size (least_ceil size most some) (record { enough = omega arith; no_more = omega arith })

-- one part, and those of the rest
pub ceil_more : (size most : ℕ) → 1 ≤ most → 1 ≤ size → div_ceil size most ≡ suc (div_ceil (size - most) most)
ceil_more size most some more =
    let rest = least_ceil (size - most) most some in
    let step : suc (div_ceil (size - most) most) * most ≡ div_ceil (size - most) most * most + most =
    suc-mul (div_ceil (size - most) most) most in
    let less : div_ceil (size - most) most * most < size =
    elim (cases_lt size most) [
      | inl below ↦
          let none : div_ceil (size - most) most ≡ 0 = ceil_none (size - most) most some (omega arith) in
          rw none (omega arith)
      | inr above ↦ omega (arith, rest.no_more)
    ] in
    least_is_one most (div_ceil size most) (suc (div_ceil (size - most) most)) size (least_ceil size most some)
    (record { enough = omega (arith, step, rest.enough); no_more = omega (arith, step, less) })

-- so many parts are enough exactly for what has room in them
pub ceil_fits : (size most count : ℕ) → 1 ≤ most → div_ceil size most ≤ count → size ≤ most * count
ceil_fits size most count some fits =
    let step : div_ceil size most * most ≤ count * most = mul-le-mul_right most fits in
    omega (arith, step, (least_ceil size most some).enough, mul_comm count most)

pub fits_ceil : (size most count : ℕ) → 1 ≤ most → size ≤ most * count → div_ceil size most ≤ count
fits_ceil size most count some fits =
    elim (cases_lt count (div_ceil size most)) [
      | inl above ↦
          let step : suc count * most ≤ div_ceil size most * most = mul-le-mul_right most above in
          absurd (omega (arith, step, suc-mul count most, mul_comm count most, (least_ceil size most some).no_more))
      | inr enough ↦ enough
    ]
