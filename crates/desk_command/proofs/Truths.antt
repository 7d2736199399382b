-- Tests that are true or false.
use Rattle.std.proofs.Common.{◌≡◌, ℕ, Bool, true, false, not, ◌||◌, ◌==◌, refl, arith}
use Rattle.std.proofs.lemmas.Bool.Decides.{nat_tests}

pub not_true : (b : Bool) → not b ≡ true → b ≡ false
not_true true h = cc
not_true false h = refl

pub refuted : (b : Bool) → (b ≡ true → ⊥) → b ≡ false
refuted true none = absurd (none refl)
refuted false none = refl

pub or_false : (a b : Bool) → (a || b) ≡ false → (a ≡ false) × (b ≡ false)
or_false true b h = absurd (cc)
or_false false b h = (refl, h)

pub same : (a b : ℕ) → a == b ≡ true → a ≡ b
same a b e = grind (arith, nat_tests)
