-- What holds of each item of a list, and of any two, after an update; and how long the list is.
use Rattle.std.proofs.Common.{◌≡◌, ◌≢◌, ℕ, suc, ◌+◌, ◌<◌, ◌≤◌, Bool, not, List, [], ◌∷◌, ◌++◌, length, Some, refl, sym, ap, ◌∙◌, arith}
use Rattle.std.specs.List.{AllByRecursion, filter}
use Rattle.std.specs.Cmp.{IsTotalOrder}
use Rattle.std.specs.Ordering.{eq_by_cmp, is_gt, match_ordering, nat_cmp}
use Rattle.std.specs.declared.cmp.Ordering.{Ordering}
use Rattle.std.specs.declared.cmp.Ordering.TheVariants.{Less, Equal, Greater}
use Rattle.std.proofs.lemmas.Bool.{cond-false, cond-true, cond_both}
use Rattle.room_base.specs.Ordered.{Ascends, AscendsFrom, find_by, put_by, remove_by, update_by}
use Rattle.room_base.proofs.OrderedLists.{ascend_alone, from_lower}
use Rattle.room_base.proofs.OrderedNumbers.{compares_less}
use Rattle.room_base.proofs.OrderedUpdates.{each_put, each_removed}
use Rattle.catalog_change.specs.Catalogues.{AreApart}

module _ {X K : Type 0} {R : K → K → Ordering} (o : IsTotalOrder R) (key : X → K) where
  -- a change needs to keep what holds of the item that is found alone
  pub each_updated_found : (P : X → Type 0) (change : X → X) (wanted : K) (xs : List X) → ((x : X) → find_by R key wanted xs ≡ Some x → P x → P (change x)) → AllByRecursion P xs → AllByRecursion P (update_by R key wanted change xs)
  each_updated_found P change wanted [] keeps each = tt
  each_updated_found P change wanted (x ∷ xs) keeps each =
      cond_both (eq_by_cmp R (key x) wanted) (change x ∷ xs) (x ∷ update_by R key wanted change xs) (AllByRecursion P)
      (λ same. (keeps x (cond-true (eq_by_cmp R (key x) wanted) (Some x) (find_by R key wanted xs) same) each.0, each.1))
      (λ other. (each.0, each_updated_found P change wanted xs (λ y found. keeps y (cond-false (eq_by_cmp R (key x) wanted) (Some x) (find_by R key wanted xs) other ∙ found)) each.1))

  pub length_put : (item : X) (xs : List X) → length (put_by R key item xs) ≤ length xs + 1
  length_put item [] = omega arith
  length_put item (x ∷ xs) = by (R (key x) (key item)) (length_put item xs)
    where
      by : (order : Ordering) → length (put_by R key item xs) ≤ length xs + 1 → length (match_ordering order (x ∷ put_by R key item xs) (item ∷ xs) (item ∷ (x ∷ xs))) ≤ length (x ∷ xs) + 1
      by Less rest = omega arith
      by Equal rest = omega arith
      by Greater rest = omega arith

  pub length_updated : (wanted : K) (change : X → X) (xs : List X) → length (update_by R key wanted change xs) ≡ length xs
  length_updated wanted change [] = refl
  length_updated wanted change (x ∷ xs) =
      cond_both (eq_by_cmp R (key x) wanted) (change x ∷ xs) (x ∷ update_by R key wanted change xs) (λ (ys : List X). length ys ≡ length (x ∷ xs))
      (λ same. refl) (λ other. ap suc (length_updated wanted change xs))

  pub length_removed : (gone : K) (xs : List X) → length (remove_by R key gone xs) ≤ length xs
  length_removed gone [] = omega arith
  length_removed gone (x ∷ xs) =
      let rest = length_removed gone xs in
      cond_both (not (eq_by_cmp R (key x) gone)) (x ∷ remove_by R key gone xs) (remove_by R key gone xs) (λ (ys : List X). length ys ≤ length (x ∷ xs))
      (λ same. omega (arith, rest)) (λ other. omega (arith, rest))

  -- items that differ in another field
  module _ (field : X → ℕ) where
    pub apart_put : (item : X) (xs : List X) → AllByRecursion (λ other. field other ≢ field item) xs → AreApart field xs → AreApart field (put_by R key item xs)
    apart_put item [] differ apart = (tt, tt)
    apart_put item (x ∷ xs) differ apart = by (R (key x) (key item)) (apart_put item xs differ.1 apart.1)
      where
        by : (order : Ordering) → AreApart field (put_by R key item xs) → AreApart field (match_ordering order (x ∷ put_by R key item xs) (item ∷ xs) (item ∷ (x ∷ xs)))
        by Less rest = (each_put o key (λ other. field other ≢ field x) xs item (λ same. differ.0 (sym same)) apart.0, rest)
        by Equal rest = (differ.1, apart.1)
        by Greater rest = (differ, apart)

    pub apart_removed : (gone : K) (xs : List X) → AreApart field xs → AreApart field (remove_by R key gone xs)
    apart_removed gone [] apart = tt
    apart_removed gone (x ∷ xs) apart =
        let rest = apart_removed gone xs apart.1 in
        cond_both (not (eq_by_cmp R (key x) gone)) (x ∷ remove_by R key gone xs) (remove_by R key gone xs) (AreApart field)
        (λ kept. (each_removed o key (λ other. field other ≢ field x) gone xs apart.0, rest)) (λ dropped. rest)

  -- items that are kept by a test
  filter_from : (keep : X → Bool) (low : K) (xs : List X) → AscendsFrom R key low xs → AscendsFrom R key low (filter keep xs)
  filter_from keep low [] a = tt
  filter_from keep low (x ∷ xs) a =
      let rest = filter_from keep (key x) xs a.1 in
      cond_both (keep x) (x ∷ filter keep xs) (filter keep xs) (AscendsFrom R key low)
      (λ kept. (a.0, rest))
      (λ dropped. from_lower o key (key x) low (filter keep xs) (ap is_gt a.0) rest)

  pub ascends_filtered : (keep : X → Bool) (xs : List X) → Ascends R key xs → Ascends R key (filter keep xs)
  ascends_filtered keep [] a = tt
  ascends_filtered keep (x ∷ xs) a =
      let rest = filter_from keep (key x) xs a in
      cond_both (keep x) (x ∷ filter keep xs) (filter keep xs) (Ascends R key)
      (λ kept. rest)
      (λ dropped. ascend_alone o key (key x) (filter keep xs) rest)

module _ {X : Type 0} where
  pub each_filtered : (P : X → Type 0) (keep : X → Bool) (xs : List X) → AllByRecursion P xs → AllByRecursion P (filter keep xs)
  each_filtered P keep [] each = tt
  each_filtered P keep (x ∷ xs) each =
      let rest = each_filtered P keep xs each.1 in
      cond_both (keep x) (x ∷ filter keep xs) (filter keep xs) (AllByRecursion P) (λ kept. (each.0, rest)) (λ dropped. rest)

  pub length_filtered : (keep : X → Bool) (xs : List X) → length (filter keep xs) ≤ length xs
  length_filtered keep [] = omega arith
  length_filtered keep (x ∷ xs) =
      let rest = length_filtered keep xs in
      cond_both (keep x) (x ∷ filter keep xs) (filter keep xs) (λ (ys : List X). length ys ≤ length (x ∷ xs)) (λ kept. omega (arith, rest)) (λ dropped. omega (arith, rest))

  pub each_pushed : (P : X → Type 0) (xs : List X) (x : X) → AllByRecursion P xs → P x → AllByRecursion P (xs ++ x ∷ [])
  each_pushed P [] x each one = (one, tt)
  each_pushed P (y ∷ ys) x each one = (each.0, each_pushed P ys x each.1 one)

  -- an item above all others goes behind them
  module _ (key : X → ℕ) where
    pushed_from : (low : ℕ) (xs : List X) (x : X) → AscendsFrom nat_cmp key low xs → low < key x → AllByRecursion (λ y. key y < key x) xs → AscendsFrom nat_cmp key low (xs ++ x ∷ [])
    pushed_from low [] x a below each = (compares_less low (key x) below, tt)
    pushed_from low (y ∷ ys) x a below each = (a.0, pushed_from (key y) ys x a.1 each.0 each.1)

    pub ascends_pushed : (xs : List X) (x : X) → Ascends nat_cmp key xs → AllByRecursion (λ y. key y < key x) xs → Ascends nat_cmp key (xs ++ x ∷ [])
    ascends_pushed [] x a each = tt
    ascends_pushed (y ∷ ys) x a each = pushed_from (key y) ys x a each.0 each.1
