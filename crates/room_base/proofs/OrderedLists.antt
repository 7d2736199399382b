-- What follows from a total order, for lists whose keys ascend.
use Rattle.std.proofs.Common.{◌≡◌, ℕ, zero, suc, ◌+◌, ◌<◌, Bool, true, false, List, [], ◌∷◌, length, get_or, Result, Ok, Err, refl, sym, ap, ◌∙◌, inl, inr, arith}
use Rattle.std.specs.Prelude.{◌⊎◌, ◌↔◌}
use Rattle.std.specs.List.{IsAllAdjacentAnswer}
use Rattle.std.specs.List.Sorted.{IsSortedBy, IsBinarySearchResult, IsSearchInRange}
use Rattle.std.specs.Cmp.{IsTotalOrder}
use Rattle.std.specs.Ordering.{is_lt, is_gt, ordering_reverse}
use Rattle.std.specs.declared.cmp.Ordering.{Ordering}
use Rattle.std.specs.declared.cmp.Ordering.TheVariants.{Less, Equal, Greater}
use Rattle.std.proofs.lemmas.Bool.{true≢false}
use Rattle.std.proofs.lemmas.Cmp.{alike_right, tied_itself}
use Rattle.std.proofs.lemmas.List.Sorted.{searchable_from_sorted}
use Rattle.room_base.specs.Ordered.{AscendsFrom, Ascends, IsPlace}

module _ {K : Type 0} {R : K → K → Ordering} (o : IsTotalOrder R) where
  -- what is turned round
  pub less_back : (x y : K) → R x y ≡ Less → R y x ≡ Greater
  less_back x y e = o.antisymm y x ∙ ap ordering_reverse e

  pub greater_back : (x y : K) → R x y ≡ Greater → R y x ≡ Less
  greater_back x y e = o.antisymm y x ∙ ap ordering_reverse e

  not_greater_less : (x y z : K) (r : Ordering) → R x y ≡ r → is_gt r ≡ false → R y z ≡ Less → R x z ≡ Less
  not_greater_less x y z Less e h less = o.trans x y z e less
  not_greater_less x y z Equal e h less = o.congr x y z e ∙ less
  not_greater_less x y z Greater e h less = absurd (true≢false h)

  -- what isn't above y is below what is above y
  pub upto_less : (x y z : K) → is_gt (R x y) ≡ false → R y z ≡ Less → R x z ≡ Less
  upto_less x y z h less = not_greater_less x y z (R x y) refl h less

  less_not_greater : (x y z : K) (r : Ordering) → R y z ≡ r → is_gt r ≡ false → R x y ≡ Less → R x z ≡ Less
  less_not_greater x y z Less e h less = o.trans x y z less e
  less_not_greater x y z Equal e h less = sym (alike_right o y z x e) ∙ less
  less_not_greater x y z Greater e h less = absurd (true≢false h)

  pub less_upto : (x y z : K) → R x y ≡ Less → is_gt (R y z) ≡ false → R x z ≡ Less
  less_upto x y z less h = less_not_greater x y z (R y z) refl h less

  pub upto_itself : (x : K) → is_gt (R x x) ≡ false
  upto_itself x = ap is_gt (tied_itself o x)

  upto_or_less_by : (x y : K) (r : Ordering) → R x y ≡ r → (is_gt (R x y) ≡ false) ⊎ (R y x ≡ Less)
  upto_or_less_by x y Less e = inl (ap is_gt e)
  upto_or_less_by x y Equal e = inl (ap is_gt e)
  upto_or_less_by x y Greater e = inr (greater_back x y e)

  -- of two keys one isn't above the other, or the other is below it
  pub upto_or_less : (x y : K) → (is_gt (R x y) ≡ false) ⊎ (R y x ≡ Less)
  upto_or_less x y = upto_or_less_by x y (R x y) refl

  pub not_both : {P : Type 0} (x y : K) → is_gt (R x y) ≡ false → R y x ≡ Less → P
  not_both x y h less = absurd (true≢false (sym (ap is_gt (less_back y x less)) ∙ h))

  greater_by : (x y : K) (r : Ordering) → R x y ≡ r → is_gt r ≡ true → R y x ≡ Less
  greater_by x y Less e h = absurd (true≢false (sym h))
  greater_by x y Equal e h = absurd (true≢false (sym h))
  greater_by x y Greater e h = greater_back x y e

  pub greater_is : (x y : K) → is_gt (R x y) ≡ true → R y x ≡ Less
  greater_is x y h = greater_by x y (R x y) refl h

  module _ {X : Type 0} (key : X → K) where
    pub from_lower : (low other : K) (xs : List X) → is_gt (R other low) ≡ false → AscendsFrom R key low xs → AscendsFrom R key other xs
    from_lower low other [] h a = tt
    from_lower low other (x ∷ xs) h a = (upto_less other low (key x) h a.0, a.1)

    pub ascend_alone : (low : K) (xs : List X) → AscendsFrom R key low xs → Ascends R key xs
    ascend_alone low [] a = tt
    ascend_alone low (x ∷ xs) a = a.1

    pub ascend_rest : (x : X) (xs : List X) → Ascends R key (x ∷ xs) → Ascends R key xs
    ascend_rest x xs a = ascend_alone (key x) xs a

    -- each is above the key from which they ascend
    pub above_each : (low : K) (xs : List X) → AscendsFrom R key low xs → (i : ℕ) (d : X) → i < length xs → R low (key (get_or xs i d)) ≡ Less
    above_each low [] a i d within = absurd (omega arith)
    above_each low (x ∷ xs) a zero d within = a.0
    above_each low (x ∷ xs) a (suc i) d within = o.trans low (key x) _ a.0 (above_each (key x) xs a.1 i d (omega arith))

    neighbours : (xs : List X) → Ascends R key xs → (i : ℕ) (d : X) → suc i < length xs → R (key (get_or xs i d)) (key (get_or xs (suc i) d)) ≡ Less
    neighbours [] a i d within = absurd (omega arith)
    neighbours (x ∷ xs) a zero d within = above_each (key x) xs a zero d (omega arith)
    neighbours (x ∷ xs) a (suc i) d within = neighbours xs (ascend_rest x xs a) i d (omega arith)

    neighbours_at : (xs : List X) → Ascends R key xs → (i : ℕ) (d : X) → i + 1 < length xs → R (key (get_or xs i d)) (key (get_or xs (i + 1) d)) ≡ Less
    neighbours_at xs a i d within = let e : i + 1 ≡ suc i = omega arith in rw e (neighbours xs a i d (omega arith))

    sorted : (xs : List X) → Ascends R key xs → IsSortedBy (λ a b. is_lt (R (key a) (key b))) xs
    sorted xs a k d low within =
        ap is_lt (less_back _ _ (neighbours_at xs a k d within))

    -- items of which each is below the next ascend
    pub ascend_by_neighbours : (xs : List X) → ((i : ℕ) (d : X) → suc i < length xs → R (key (get_or xs i d)) (key (get_or xs (suc i) d)) ≡ Less) → Ascends R key xs
    ascend_by_neighbours [] below = tt
    ascend_by_neighbours (x ∷ []) below = tt
    ascend_by_neighbours (x ∷ (y ∷ ys)) below = (below zero x (omega arith), ascend_by_neighbours (y ∷ ys) (λ i d within. below (suc i) d (omega arith)))

    less_is : (order : Ordering) → true ≡ is_lt order → order ≡ Less
    less_is Less e = refl
    less_is Equal e = absurd (true≢false e)
    less_is Greater e = absurd (true≢false e)

    -- what a test of neighbours tells
    pub tested : (xs : List X) (r : Bool) → IsAllAdjacentAnswer (λ x y b. b ≡ is_lt (R (key x) (key y))) xs r → (r ≡ true) ↔ Ascends R key xs
    tested xs true all =
        (λ e. ascend_by_neighbours xs (λ i d within. let e : i + 1 ≡ suc i = omega arith in less_is _ (rw (← e) (all i d (omega arith)))), λ a. refl)
    tested [] false some = absurd (omega (arith, some.1))
    tested (x ∷ xs) false some =
        (λ e. absurd (true≢false (sym e)), λ a. some.2 x ∙ ap is_lt (neighbours_at (x ∷ xs) a some.0 x some.1))

    -- what a binary search answers is a place
    pub searched : (xs : List X) → Ascends R key xs → (k : K) (r : Result ℕ ℕ) → IsSearchInRange r (length xs) → IsBinarySearchResult (λ y. R (key y) k) xs r → IsPlace R key k xs r
    searched xs a k (Ok at) within is = (within, is)
    searched xs a k (Err at) within is = let parts = is (searchable_from_sorted o key xs k (sorted xs a)) in (within, parts.0, parts.1)

    -- what stands at a place is above each before it
    pub before_place : (low k : K) (xs : List X) → AscendsFrom R key low xs → (at : ℕ) → IsPlace R key k xs (Ok at) → R low k ≡ Less
    before_place low k [] a at place = absurd (omega (arith, place.0))
    before_place low k (x ∷ xs) a at place =
        sym (alike_right o (key (get_or (x ∷ xs) at x)) k low (place.1 x)) ∙ above_each low (x ∷ xs) a at x place.0

    -- the place among the items behind the first
    pub tail_place : (k : K) (x : X) (xs : List X) (at : ℕ) → IsPlace R key k (x ∷ xs) (Ok (suc at)) → IsPlace R key k xs (Ok at)
    tail_place k x xs at place = (omega (arith, place.0), place.1)

    pub tail_gap : (k : K) (x : X) (xs : List X) (at : ℕ) → IsPlace R key k (x ∷ xs) (Err (suc at)) → IsPlace R key k xs (Err at)
    tail_gap k x xs at place = (omega (arith, place.0), (λ i d low high. place.1 (suc i) d (omega arith) (omega arith)), λ i d low high. place.2 (suc i) d (omega arith) (omega arith))
