-- Where a copy stands among the copies of a record.
use Rattle.std.proofs.Common.{◌≡◌, ℕ, suc, ◌+◌, ◌<◌, ◌≤◌, Bool, true, false, not, cond, List, [], ◌∷◌, length, get_or, set, Some, None, refl, sym, subst, ap, ◌∙◌, arith}
use Rattle.std.specs.Prelude.{◌==◌, filter, position}
use Rattle.std.specs.List.{position_or_len}
use Rattle.std.specs.Cmp.{unsigned_ties}
use Rattle.std.specs.Ordering.{nat_cmp, eq_by_cmp}
use Rattle.std.proofs.lemmas.Bool.{cond-true, cond-false}
use Rattle.std.proofs.lemmas.Bool.Decides.{nat_tests}
use Rattle.room_base.specs.Ordered.{update_by, remove_by}

module _ {X : Type 0} (key : X → ℕ) (number : ℕ) where
  abbrev has : X → Bool
  has x = key x == number

  module _ (change : X → X) where
    first_changed : (xs : List X) (d : X) → position_or_len has xs < length xs → set xs (position_or_len has xs) (change (get_or xs (position_or_len has xs) d)) ≡ update_by nat_cmp key number change xs
    first_changed [] d below = absurd (omega arith)
    first_changed (x ∷ xs) d below = by (has x) refl (first_changed xs d) below
      where
        by : (here : Bool) → has x ≡ here
            → (position_or_len has xs < length xs → set xs (position_or_len has xs) (change (get_or xs (position_or_len has xs) d)) ≡ update_by nat_cmp key number change xs)
            → cond (not here) (1 + position_or_len has xs) 0 < length (x ∷ xs)
            → set (x ∷ xs) (cond (not here) (1 + position_or_len has xs) 0) (change (get_or (x ∷ xs) (cond (not here) (1 + position_or_len has xs) 0) d))
            ≡ cond (eq_by_cmp nat_cmp (key x) number) (change x ∷ xs) (x ∷ update_by nat_cmp key number change xs)
        by true is more below = sym (cond-true (eq_by_cmp nat_cmp (key x) number) (change x ∷ xs) (x ∷ update_by nat_cmp key number change xs) (sym (unsigned_ties (key x) number) ∙ is))
        by false is more below =
            let next : 1 + position_or_len has xs ≡ suc (position_or_len has xs) = omega arith in
            rw next (ap (λ (rest : List X). x ∷ rest) (more (omega arith)))
            ∙ sym (cond-false (eq_by_cmp nat_cmp (key x) number) (change x ∷ xs) (x ∷ update_by nat_cmp key number change xs) (sym (unsigned_ties (key x) number) ∙ is))

    none_changed : (xs : List X) → length xs ≤ position_or_len has xs → xs ≡ update_by nat_cmp key number change xs
    none_changed [] above = refl
    none_changed (x ∷ xs) above = by (has x) refl (none_changed xs) above
      where
        by : (here : Bool) → has x ≡ here → (length xs ≤ position_or_len has xs → xs ≡ update_by nat_cmp key number change xs)
            → length (x ∷ xs) ≤ cond (not here) (1 + position_or_len has xs) 0
            → x ∷ xs ≡ cond (eq_by_cmp nat_cmp (key x) number) (change x ∷ xs) (x ∷ update_by nat_cmp key number change xs)
        by true is more above = absurd (omega arith)
        by false is more above =
            ap (λ (rest : List X). x ∷ rest) (more (omega arith))
            ∙ sym (cond-false (eq_by_cmp nat_cmp (key x) number) (change x ∷ xs) (x ∷ update_by nat_cmp key number change xs) (sym (unsigned_ties (key x) number) ∙ is))

    at_position : (xs : List X) (at : ℕ) → position has xs ≡ Some at → (position_or_len has xs ≡ at) × (position_or_len has xs < length xs)
    at_position xs at is = (grind (arith, nat_tests), grind (arith, nat_tests))

    -- the first item of a number is changed at its position
    pub position_changed : (xs : List X) (at : ℕ) → position has xs ≡ Some at → (old new : X) → old ≡ get_or xs at old → new ≡ change old → set xs at new ≡ update_by nat_cmp key number change xs
    position_changed xs at is old new read made =
        let place = at_position xs at is in
        ap (λ (x : X). set xs at x) (made ∙ ap change read) ∙ subst (λ (i : ℕ). set xs i (change (get_or xs i old)) ≡ update_by nat_cmp key number change xs) place.0 (first_changed xs old place.1)

    -- where none has it, all stay
    pub no_position : (xs : List X) → position has xs ≡ None → xs ≡ update_by nat_cmp key number change xs
    no_position xs is = none_changed xs (grind (arith, nat_tests))

  -- those without the number
  pub without_number : (xs : List X) → filter (λ x. not (key x == number)) xs ≡ remove_by nat_cmp key number xs
  without_number xs = ap (λ (test : X → Bool). filter test xs) (λ i x. not (unsigned_ties (key x) number i))
