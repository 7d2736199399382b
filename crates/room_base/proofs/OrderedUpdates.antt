-- What updates at a place make of a list whose keys ascend, and what they keep.
use Rattle.std.proofs.Common.{◌≡◌, ℕ, zero, suc, ◌<◌, false, not, List, [], ◌∷◌, length, get_or, set, Ok, Err, refl, sym, ap, subst, ◌∙◌, arith}
use Rattle.std.specs.List.{AllByRecursion, insert, remove}
use Rattle.std.specs.Cmp.{IsTotalOrder}
use Rattle.std.specs.Ordering.{is_eq, is_gt, eq_by_cmp, match_ordering}
use Rattle.std.specs.declared.cmp.Ordering.{Ordering}
use Rattle.std.specs.declared.cmp.Ordering.TheVariants.{Less, Equal, Greater}
use Rattle.std.proofs.lemmas.Bool.{cond-true, cond-false, cond_both}
use Rattle.std.proofs.lemmas.Cmp.{alike_right, tied_back}
use Rattle.room_base.specs.Ordered.{AscendsFrom, Ascends, IsPlace, put_by, remove_by, update_by}
use Rattle.room_base.proofs.OrderedLists.{from_lower, ascend_alone, above_each, less_back, greater_back, before_place, ascend_rest, tail_place, tail_gap}
use Rattle.room_base.proofs.OrderedSearch.{others_at}

by_order : {A : Type 0} (order other : Ordering) (x y z : A) → order ≡ other → match_ordering order x y z ≡ match_ordering other x y z
by_order order other x y z is = ap (λ o. match_ordering o x y z) is

module _ {X K : Type 0} {R : K → K → Ordering} (o : IsTotalOrder R) (key : X → K) where
  -- ---- what a list becomes

  -- an item is put in place of the one that has its key
  pub put_at : (xs : List X) (item : X) (at : ℕ) → Ascends R key xs → IsPlace R key (key item) xs (Ok at) → set xs at item ≡ put_by R key item xs
  put_at [] item at a place = absurd (omega (arith, place.0))
  put_at (x ∷ xs) item zero a place = sym (by_order (R (key x) (key item)) Equal _ _ _ (place.1 x))
  put_at (x ∷ xs) item (suc at) a place =
      let tail = tail_place o key (key item) x xs at place in
      ap (λ rest. x ∷ rest) (put_at xs item at (ascend_rest o key x xs a) tail)
      ∙ sym (by_order (R (key x) (key item)) Less _ _ _ (before_place o key (key x) (key item) xs a at tail))

  -- or in its place among the others
  pub put_between : (xs : List X) (item : X) (at : ℕ) → IsPlace R key (key item) xs (Err at) → insert xs at item ≡ put_by R key item xs
  put_between [] item zero place = refl
  put_between (x ∷ xs) item zero place = sym (by_order (R (key x) (key item)) Greater _ _ _ (place.2 zero x (omega arith) (omega arith)))
  put_between [] item (suc at) place = absurd (omega (arith, place.0))
  put_between (x ∷ xs) item (suc at) place =
      ap (λ rest. x ∷ rest) (put_between xs item at (tail_gap o key (key item) x xs at place))
      ∙ sym (by_order (R (key x) (key item)) Less _ _ _ (place.1 zero x (omega arith) (omega arith)))

  module _ (gone : K) where
    keeps : (x : X) (xs : List X) → eq_by_cmp R (key x) gone ≡ false → remove_by R key gone (x ∷ xs) ≡ x ∷ remove_by R key gone xs
    keeps x xs other = cond-true (not (eq_by_cmp R (key x) gone)) (x ∷ remove_by R key gone xs) (remove_by R key gone xs) (ap not other)

    keeps_all : (xs : List X) → ((i : ℕ) (d : X) → i < length xs → eq_by_cmp R (key (get_or xs i d)) gone ≡ false) → remove_by R key gone xs ≡ xs
    keeps_all [] others = refl
    keeps_all (x ∷ xs) others = keeps x xs (others zero x (omega arith)) ∙ ap (λ rest. x ∷ rest) (keeps_all xs (λ i d within. others (suc i) d (omega arith)))

    -- behind the item of a key no other has it
    after_found : (x : X) (xs : List X) → Ascends R key (x ∷ xs) → R (key x) gone ≡ Equal → (i : ℕ) (d : X) → i < length xs → eq_by_cmp R (key (get_or xs i d)) gone ≡ false
    after_found x xs a same i d within =
        let below = above_each o key (key x) xs a i d within in
        ap is_eq (sym (alike_right o (key x) gone (key (get_or xs i d)) same) ∙ less_back o (key x) (key (get_or xs i d)) below)

    -- the item of a key is removed at its place
    pub removed_at : (xs : List X) (at : ℕ) → Ascends R key xs → IsPlace R key gone xs (Ok at) → remove xs at ≡ remove_by R key gone xs
    removed_at [] at a place = absurd (omega (arith, place.0))
    removed_at (x ∷ xs) zero a place =
        sym (cond-false (not (eq_by_cmp R (key x) gone)) (x ∷ remove_by R key gone xs) (remove_by R key gone xs) (ap not (ap is_eq (place.1 x)))
        ∙ keeps_all xs (after_found x xs a (place.1 x)))
    removed_at (x ∷ xs) (suc at) a place =
        let tail = tail_place o key gone x xs at place in
        ap (λ rest. x ∷ rest) (removed_at xs at (ascend_rest o key x xs a) tail)
        ∙ sym (keeps x xs (ap is_eq (before_place o key (key x) gone xs a at tail)))

    -- where none has the key, all stay
    pub none_removed : (xs : List X) (at : ℕ) → IsPlace R key gone xs (Err at) → xs ≡ remove_by R key gone xs
    none_removed xs at place = sym (keeps_all xs (others_at o key gone xs at place))

    module _ (change : X → X) where
      stays : (x : X) (xs : List X) → eq_by_cmp R (key x) gone ≡ false → update_by R key gone change (x ∷ xs) ≡ x ∷ update_by R key gone change xs
      stays x xs other = cond-false (eq_by_cmp R (key x) gone) (change x ∷ xs) (x ∷ update_by R key gone change xs) other

      all_stay : (xs : List X) → ((i : ℕ) (d : X) → i < length xs → eq_by_cmp R (key (get_or xs i d)) gone ≡ false) → update_by R key gone change xs ≡ xs
      all_stay [] others = refl
      all_stay (x ∷ xs) others = stays x xs (others zero x (omega arith)) ∙ ap (λ rest. x ∷ rest) (all_stay xs (λ i d within. others (suc i) d (omega arith)))

      -- the item of a key is changed at its place
      pub updated_at : (xs : List X) (at : ℕ) → Ascends R key xs → IsPlace R key gone xs (Ok at) → (d : X) → set xs at (change (get_or xs at d)) ≡ update_by R key gone change xs
      updated_at [] at a place d = absurd (omega (arith, place.0))
      updated_at (x ∷ xs) zero a place d = sym (cond-true (eq_by_cmp R (key x) gone) (change x ∷ xs) (x ∷ update_by R key gone change xs) (ap is_eq (place.1 x)))
      updated_at (x ∷ xs) (suc at) a place d =
          let tail = tail_place o key gone x xs at place in
          ap (λ rest. x ∷ rest) (updated_at xs at (ascend_rest o key x xs a) tail d)
          ∙ sym (stays x xs (ap is_eq (before_place o key (key x) gone xs a at tail)))

      -- where none has the key, all stay
      pub none_updated : (xs : List X) (at : ℕ) → IsPlace R key gone xs (Err at) → xs ≡ update_by R key gone change xs
      none_updated xs at place = sym (all_stay xs (others_at o key gone xs at place))

  -- ---- what stays ordered

  removed_from : (gone low : K) (xs : List X) → AscendsFrom R key low xs → AscendsFrom R key low (remove_by R key gone xs)
  removed_from gone low [] a = tt
  removed_from gone low (x ∷ xs) a =
      let rest = removed_from gone (key x) xs a.1 in
      cond_both (not (eq_by_cmp R (key x) gone)) (x ∷ remove_by R key gone xs) (remove_by R key gone xs) (AscendsFrom R key low)
      (λ kept. (a.0, rest))
      (λ dropped. from_lower o key (key x) low (remove_by R key gone xs) (ap is_gt a.0) rest)

  pub ascends_removed : (gone : K) (xs : List X) → Ascends R key xs → Ascends R key (remove_by R key gone xs)
  ascends_removed gone [] a = tt
  ascends_removed gone (x ∷ xs) a =
      let rest = removed_from gone (key x) xs a in
      cond_both (not (eq_by_cmp R (key x) gone)) (x ∷ remove_by R key gone xs) (remove_by R key gone xs) (Ascends R key)
      (λ kept. rest)
      (λ dropped. ascend_alone o key (key x) (remove_by R key gone xs) rest)

  put_from : (low : K) (xs : List X) (item : X) → R low (key item) ≡ Less → AscendsFrom R key low xs → AscendsFrom R key low (put_by R key item xs)
  put_from low [] item below a = (below, tt)
  put_from low (x ∷ xs) item below a = by (R (key x) (key item)) refl (λ is. put_from (key x) xs item is a.1)
    where
      by : (order : Ordering) → R (key x) (key item) ≡ order → (R (key x) (key item) ≡ Less → AscendsFrom R key (key x) (put_by R key item xs))
          → AscendsFrom R key low (match_ordering order (x ∷ put_by R key item xs) (item ∷ xs) (item ∷ (x ∷ xs)))
      by Less is rest = (a.0, rest is)
      by Equal is rest = (below, from_lower o key (key x) (key item) xs (ap is_gt (tied_back o (key x) (key item) is)) a.1)
      by Greater is rest = (below, (greater_back o (key x) (key item) is, a.1))

  pub ascends_put : (xs : List X) (item : X) → Ascends R key xs → Ascends R key (put_by R key item xs)
  ascends_put [] item a = tt
  ascends_put (x ∷ xs) item a = by (R (key x) (key item)) refl
    where
      by : (order : Ordering) → R (key x) (key item) ≡ order → Ascends R key (match_ordering order (x ∷ put_by R key item xs) (item ∷ xs) (item ∷ (x ∷ xs)))
      by Less is = put_from (key x) xs item is a
      by Equal is = from_lower o key (key x) (key item) xs (ap is_gt (tied_back o (key x) (key item) is)) a
      by Greater is = (greater_back o (key x) (key item) is, a)

  module _ (change : X → X) (keeps_key : (x : X) → key (change x) ≡ key x) (wanted : K) where
    updated_from : (low : K) (xs : List X) → AscendsFrom R key low xs → AscendsFrom R key low (update_by R key wanted change xs)
    updated_from low [] a = tt
    updated_from low (x ∷ xs) a =
        cond_both (eq_by_cmp R (key x) wanted) (change x ∷ xs) (x ∷ update_by R key wanted change xs) (AscendsFrom R key low)
        (λ same. (subst (λ (k : K). R low k ≡ Less) (sym (keeps_key x)) a.0, subst (λ (k : K). AscendsFrom R key k xs) (sym (keeps_key x)) a.1))
        (λ other. (a.0, updated_from (key x) xs a.1))

    pub ascends_updated : (xs : List X) → Ascends R key xs → Ascends R key (update_by R key wanted change xs)
    ascends_updated [] a = tt
    ascends_updated (x ∷ xs) a =
        cond_both (eq_by_cmp R (key x) wanted) (change x ∷ xs) (x ∷ update_by R key wanted change xs) (Ascends R key)
        (λ same. subst (λ (k : K). AscendsFrom R key k xs) (sym (keeps_key x)) a)
        (λ other. updated_from (key x) xs a)

  -- ---- a fact of each item

  module _ (P : X → Type 0) where
    pub each_put : (xs : List X) (item : X) → P item → AllByRecursion P xs → AllByRecursion P (put_by R key item xs)
    each_put [] item one each = (one, tt)
    each_put (x ∷ xs) item one each = by (R (key x) (key item)) (each_put xs item one each.1)
      where
        by : (order : Ordering) → AllByRecursion P (put_by R key item xs) → AllByRecursion P (match_ordering order (x ∷ put_by R key item xs) (item ∷ xs) (item ∷ (x ∷ xs)))
        by Less rest = (each.0, rest)
        by Equal rest = (one, each.1)
        by Greater rest = (one, each)

    pub each_removed : (gone : K) (xs : List X) → AllByRecursion P xs → AllByRecursion P (remove_by R key gone xs)
    each_removed gone [] each = tt
    each_removed gone (x ∷ xs) each =
        let rest = each_removed gone xs each.1 in
        cond_both (not (eq_by_cmp R (key x) gone)) (x ∷ remove_by R key gone xs) (remove_by R key gone xs) (AllByRecursion P) (λ kept. (each.0, rest)) (λ dropped. rest)

    pub each_updated : (change : X → X) → ((x : X) → P x → P (change x)) → (wanted : K) (xs : List X) → AllByRecursion P xs → AllByRecursion P (update_by R key wanted change xs)
    each_updated change keeps wanted [] each = tt
    each_updated change keeps wanted (x ∷ xs) each =
        cond_both (eq_by_cmp R (key x) wanted) (change x ∷ xs) (x ∷ update_by R key wanted change xs) (AllByRecursion P)
        (λ same. (keeps x each.0, each.1))
        (λ other. (each.0, each_updated change keeps wanted xs each.1))
