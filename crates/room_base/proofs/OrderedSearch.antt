-- What is found at a place of a list whose keys ascend.
use Rattle.std.proofs.Common.{◌≡◌, ℕ, zero, suc, ◌<◌, false, List, [], ◌∷◌, length, get_or, Ok, Err, refl, sym, ap, ◌∙◌, inl, inr, arith}
use Rattle.std.specs.Prelude.{Some, None}
use Rattle.std.specs.Cmp.{IsTotalOrder}
use Rattle.std.specs.Ordering.{is_eq, eq_by_cmp}
use Rattle.std.specs.declared.cmp.Ordering.{Ordering}
use Rattle.std.proofs.lemmas.Bool.{cases_lt, cond-true, cond-false}
use Rattle.room_base.specs.Ordered.{Ascends, IsPlace, find_by}
use Rattle.room_base.proofs.OrderedLists.{ascend_rest, before_place, tail_place}

module _ {X K : Type 0} {R : K → K → Ordering} (o : IsTotalOrder R) (key : X → K) (k : K) where
  -- what stands at the place is found
  pub found_at : (xs : List X) → Ascends R key xs → (at : ℕ) → IsPlace R key k xs (Ok at) → (d : X) → find_by R key k xs ≡ Some (get_or xs at d)
  found_at [] a at place d = absurd (omega (arith, place.0))
  found_at (x ∷ xs) a zero place d = cond-true (eq_by_cmp R (key x) k) (Some x) (find_by R key k xs) (ap is_eq (place.1 d))
  found_at (x ∷ xs) a (suc at) place d =
      cond-false (eq_by_cmp R (key x) k) (Some x) (find_by R key k xs) (ap is_eq (before_place o key (key x) k xs a at (tail_place o key k x xs at place)))
      ∙ found_at xs (ascend_rest o key x xs a) at (tail_place o key k x xs at place) d

  -- so is what was read there
  pub found_read : (xs : List X) → Ascends R key xs → (at : ℕ) → IsPlace R key k xs (Ok at) → (found : X) → found ≡ get_or xs at found → find_by R key k xs ≡ Some found
  found_read xs a at place found is = found_at xs a at place found ∙ ap Some (sym is)

  none_found : (xs : List X) → ((i : ℕ) (d : X) → i < length xs → eq_by_cmp R (key (get_or xs i d)) k ≡ false) → find_by R key k xs ≡ None
  none_found [] none = refl
  none_found (x ∷ xs) none =
      cond-false (eq_by_cmp R (key x) k) (Some x) (find_by R key k xs) (none zero x (omega arith))
      ∙ none_found xs (λ i d within. none (suc i) d (omega arith))

  -- between its neighbours no item has the key
  pub others_at : (xs : List X) (at : ℕ) → IsPlace R key k xs (Err at) → (i : ℕ) (d : X) → i < length xs → eq_by_cmp R (key (get_or xs i d)) k ≡ false
  others_at xs at place i d within = elim (cases_lt i at) [
    | inl below ↦ ap is_eq (place.1 i d (omega arith) below)
    | inr above ↦ ap is_eq (place.2 i d above within)
  ]

  -- so nothing is found
  pub none_at : (xs : List X) (at : ℕ) → IsPlace R key k xs (Err at) → find_by R key k xs ≡ None
  none_at xs at place = none_found xs (others_at xs at place)
