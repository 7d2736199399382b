-- The causes of faults. A count of faults stands still at the last value of its counter.
use Rattle.std.specs.Prelude.{ℕ, ◌+◌, ◌-◌, ◌≤◌, ◌^◌, min, Result, OnErr}

-- the count after one more fault
abbrev pub risen : ℕ → ℕ
risen before = min (before + 1) (2 ^ 64 - 1)

-- the count rose, or stands at its last value
abbrev pub Rose : ℕ → ℕ → Type 0
Rose before now = risen before ≤ now

-- the count doesn't fall, and a fault is answered only where it rose
pub record HasCause {T E : Type 0} (before now : ℕ) (answer : Result T E) : Type 0 where
  pub later : before ≤ now
  pub cause : OnErr answer (Rose before now)
