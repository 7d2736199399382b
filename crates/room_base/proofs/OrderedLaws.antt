-- What look-ups find in a list whose keys ascend, and what they find after an update.
use Rattle.std.proofs.Common.{◌≡◌, ◌⊎◌, zero, suc, Bool, true, false, not, cond, List, [], ◌∷◌, ◌++◌, Option, Some, None, refl, sym, ap, subst, ◌∙◌, inl, inr, arith}
use Rattle.std.specs.List.{AllByRecursion, Contains}
use Rattle.std.specs.Option.{option_map}
use Rattle.std.specs.Cmp.{IsTotalOrder}
use Rattle.std.specs.Ordering.{is_eq, is_gt, eq_by_cmp, match_ordering}
use Rattle.std.specs.declared.cmp.Ordering.{Ordering}
use Rattle.std.specs.declared.cmp.Ordering.TheVariants.{Less, Equal, Greater}
use Rattle.std.proofs.lemmas.Bool.{true≢false, cond-true, cond-false, cond_both}
use Rattle.std.proofs.lemmas.Cmp.{alike_right, tied_itself}
use Rattle.room_base.specs.Ordered.{AscendsFrom, Ascends, find_by, put_by, remove_by, update_by}
use Rattle.room_base.proofs.OrderedLists.{ascend_rest, from_lower, less_back, upto_or_less, upto_less, not_both}

equal_is : (order : Ordering) → is_eq order ≡ true → order ≡ Equal
equal_is Less e = absurd (true≢false (sym e))
equal_is Equal e = refl
equal_is Greater e = absurd (true≢false (sym e))

-- choices between two values by tests that never hold both
swapped : {A : Type 0} (one other : Bool) (x y z : A) → (other ≡ true → one ≡ false) → cond one x (cond other y z) ≡ cond other y (cond one x z)
swapped true true x y z apart = absurd (true≢false (apart refl))
swapped true false x y z apart = refl
swapped false other x y z apart = refl

-- by tests that hold alike
hidden : {A : Type 0} (one other : Bool) (x y z : A) → one ≡ other → cond other x z ≡ cond other x (cond one y z)
hidden true true x y z same = refl
hidden false false x y z same = refl
hidden true false x y z same = absurd (true≢false same)
hidden false true x y z same = absurd (true≢false (sym same))

pub each_weaker : {X : Type 0} (P Q : X → Type 0) → ((x : X) → P x → Q x) → (xs : List X) → AllByRecursion P xs → AllByRecursion Q xs
each_weaker P Q weaker [] each = tt
each_weaker P Q weaker (x ∷ xs) each = (weaker x each.0, each_weaker P Q weaker xs each.1)

module _ {X K : Type 0} {R : K → K → Ordering} (o : IsTotalOrder R) (key : X → K) where
  -- items of one key have any key together
  alike : (x y k : K) → R x y ≡ Equal → eq_by_cmp R x k ≡ eq_by_cmp R y k
  alike x y k same = ap is_eq (o.congr x y k same)

  -- what is below another has not its keys
  apart : (x y k : K) → R x y ≡ Less → eq_by_cmp R y k ≡ true → eq_by_cmp R x k ≡ false
  apart x y k below has = ap is_eq (sym (alike_right o y k x (equal_is (R y k) has)) ∙ below)

  -- ---- after an update

  -- what was put is found, and at every other key what was found before
  pub found_put : (item : X) (wanted : K) (xs : List X) → find_by R key wanted (put_by R key item xs) ≡ cond (eq_by_cmp R (key item) wanted) (Some item) (find_by R key wanted xs)
  found_put item wanted [] = refl
  found_put item wanted (x ∷ xs) = by (R (key x) (key item)) refl (found_put item wanted xs)
    where
      by : (order : Ordering) → R (key x) (key item) ≡ order → find_by R key wanted (put_by R key item xs) ≡ cond (eq_by_cmp R (key item) wanted) (Some item) (find_by R key wanted xs)
          → find_by R key wanted (match_ordering order (x ∷ put_by R key item xs) (item ∷ xs) (item ∷ (x ∷ xs)))
          ≡ cond (eq_by_cmp R (key item) wanted) (Some item) (cond (eq_by_cmp R (key x) wanted) (Some x) (find_by R key wanted xs))
      by Less is more =
          ap (λ (rest : Option X). cond (eq_by_cmp R (key x) wanted) (Some x) rest) more
          ∙ swapped (eq_by_cmp R (key x) wanted) (eq_by_cmp R (key item) wanted) (Some x) (Some item) (find_by R key wanted xs) (apart (key x) (key item) wanted is)
      by Equal is more = hidden (eq_by_cmp R (key x) wanted) (eq_by_cmp R (key item) wanted) (Some item) (Some x) (find_by R key wanted xs) (alike (key x) (key item) wanted is)
      by Greater is more = refl

  pub found_removed : (gone wanted : K) (xs : List X) → find_by R key wanted (remove_by R key gone xs) ≡ cond (eq_by_cmp R gone wanted) None (find_by R key wanted xs)
  found_removed gone wanted [] = cond_both (eq_by_cmp R gone wanted) None None (λ (found : Option X). None ≡ found) (λ same. refl) (λ other. refl)
  found_removed gone wanted (x ∷ xs) = by (eq_by_cmp R (key x) gone) refl (found_removed gone wanted xs)
    where
      by : (has : Bool) → eq_by_cmp R (key x) gone ≡ has → find_by R key wanted (remove_by R key gone xs) ≡ cond (eq_by_cmp R gone wanted) None (find_by R key wanted xs)
          → find_by R key wanted (cond (not has) (x ∷ remove_by R key gone xs) (remove_by R key gone xs))
          ≡ cond (eq_by_cmp R gone wanted) None (cond (eq_by_cmp R (key x) wanted) (Some x) (find_by R key wanted xs))
      by true is more = more ∙ hidden (eq_by_cmp R (key x) wanted) (eq_by_cmp R gone wanted) None (Some x) (find_by R key wanted xs) (alike (key x) gone wanted (equal_is (R (key x) gone) is))
      by false is more =
          ap (λ (rest : Option X). cond (eq_by_cmp R (key x) wanted) (Some x) rest) more
          ∙ swapped (eq_by_cmp R (key x) wanted) (eq_by_cmp R gone wanted) (Some x) None (find_by R key wanted xs) (λ same. differs same)
        where
          differs : eq_by_cmp R gone wanted ≡ true → eq_by_cmp R (key x) wanted ≡ false
          differs same = ap is_eq (sym (alike_right o gone wanted (key x) (equal_is (R gone wanted) same))) ∙ is

  -- a change that keeps the key is found, and at every other key what was found before
  pub found_updated : (change : X → X) → ((x : X) → key (change x) ≡ key x) → (changed wanted : K) (xs : List X)
      → find_by R key wanted (update_by R key changed change xs) ≡ cond (eq_by_cmp R changed wanted) (option_map change (find_by R key wanted xs)) (find_by R key wanted xs)
  found_updated change keeps changed wanted [] = cond_both (eq_by_cmp R changed wanted) (option_map change None) None (λ (found : Option X). None ≡ found) (λ same. refl) (λ other. refl)
  found_updated change keeps changed wanted (x ∷ xs) = by (eq_by_cmp R (key x) changed) refl (eq_by_cmp R (key x) wanted) refl (eq_by_cmp R changed wanted) refl (found_updated change keeps changed wanted xs)
    where
      by : (has : Bool) → eq_by_cmp R (key x) changed ≡ has → (here : Bool) → eq_by_cmp R (key x) wanted ≡ here → (same : Bool) → eq_by_cmp R changed wanted ≡ same
          → find_by R key wanted (update_by R key changed change xs) ≡ cond (eq_by_cmp R changed wanted) (option_map change (find_by R key wanted xs)) (find_by R key wanted xs)
          → find_by R key wanted (cond has (change x ∷ xs) (x ∷ update_by R key changed change xs))
          ≡ cond same (option_map change (cond here (Some x) (find_by R key wanted xs))) (cond here (Some x) (find_by R key wanted xs))
      by true has true here true same more = cond-true (eq_by_cmp R (key (change x)) wanted) (Some (change x)) (find_by R key wanted xs) (ap (λ (k : K). eq_by_cmp R k wanted) (keeps x) ∙ here)
      by true has true here false same more = absurd (true≢false (sym here ∙ alike (key x) changed wanted (equal_is (R (key x) changed) has) ∙ same))
      by true has false here true same more = absurd (true≢false (sym same ∙ sym (alike (key x) changed wanted (equal_is (R (key x) changed) has)) ∙ here))
      by true has false here false same more = cond-false (eq_by_cmp R (key (change x)) wanted) (Some (change x)) (find_by R key wanted xs) (ap (λ (k : K). eq_by_cmp R k wanted) (keeps x) ∙ here)
      by false has true here true same more = absurd (true≢false (sym here ∙ ap is_eq (sym (alike_right o changed wanted (key x) (equal_is (R changed wanted) same))) ∙ has))
      by false has true here false same more = cond-true (eq_by_cmp R (key x) wanted) (Some x) (find_by R key wanted (update_by R key changed change xs)) here
      by false has false here true same more =
          cond-false (eq_by_cmp R (key x) wanted) (Some x) (find_by R key wanted (update_by R key changed change xs)) here ∙ more
          ∙ cond-true (eq_by_cmp R changed wanted) (option_map change (find_by R key wanted xs)) (find_by R key wanted xs) same
      by false has false here false same more =
          cond-false (eq_by_cmp R (key x) wanted) (Some x) (find_by R key wanted (update_by R key changed change xs)) here ∙ more
          ∙ cond-false (eq_by_cmp R changed wanted) (option_map change (find_by R key wanted xs)) (find_by R key wanted xs) same

  -- ---- what is found

  found_first_by : (x : X) (wanted : K) (has : Bool) → eq_by_cmp R (key x) wanted ≡ has → (found : X) (others : Option X)
      → cond has (Some x) others ≡ Some found → ((x ≡ found) × (R (key x) wanted ≡ Equal)) ⊎ ((eq_by_cmp R (key x) wanted ≡ false) × (others ≡ Some found))
  found_first_by x wanted true is found others e = inl (cc e, equal_is (R (key x) wanted) is)
  found_first_by x wanted false is found others e = inr (is, e)

  -- what is found is the first item, or found behind it
  pub first_or_behind : (x : X) (xs : List X) (wanted : K) (found : X) → find_by R key wanted (x ∷ xs) ≡ Some found
      → ((x ≡ found) × (R (key x) wanted ≡ Equal)) ⊎ ((eq_by_cmp R (key x) wanted ≡ false) × (find_by R key wanted xs ≡ Some found))
  first_or_behind x xs wanted found e = found_first_by x wanted (eq_by_cmp R (key x) wanted) refl found (find_by R key wanted xs) e

  pub found_has_key : (wanted : K) (found : X) (xs : List X) → find_by R key wanted xs ≡ Some found → R (key found) wanted ≡ Equal
  found_has_key wanted found [] is = cc
  found_has_key wanted found (x ∷ xs) is = elim (first_or_behind x xs wanted found is) [
    | inl first ↦ subst (λ (y : X). R (key y) wanted ≡ Equal) first.0 first.1
    | inr behind ↦ found_has_key wanted found xs behind.1
  ]

  -- what each item has, one that is found has
  pub each_found : (P : X → Type 0) (wanted : K) (found : X) (xs : List X) → AllByRecursion P xs → find_by R key wanted xs ≡ Some found → P found
  each_found P wanted found [] each is = cc
  each_found P wanted found (x ∷ xs) each is = elim (first_or_behind x xs wanted found is) [
    | inl first ↦ subst P first.0 each.0
    | inr behind ↦ each_found P wanted found xs each.1 behind.1
  ]

  here_or_later : (found x : X) (xs : List X) → Contains (x ∷ xs) found → (x ≡ found) ⊎ Contains xs found
  here_or_later found x xs (zero, below, is) = inl is
  here_or_later found x xs (suc at, below, is) = inr (at, omega arith, is)

  later : (found x : X) (xs : List X) → Contains xs found → Contains (x ∷ xs) found
  later found x xs (at, below, is) = (suc at, omega arith, is)

  pub found_listed : (wanted : K) (found : X) (xs : List X) → find_by R key wanted xs ≡ Some found → Contains xs found
  found_listed wanted found [] is = cc
  found_listed wanted found (x ∷ xs) is = elim (first_or_behind x xs wanted found is) [
    | inl first ↦ (0, omega arith, first.0)
    | inr behind ↦ later found x xs (found_listed wanted found xs behind.1)
  ]

  -- what each item has, one that is listed has
  pub each_listed : (P : X → Type 0) (found : X) (xs : List X) → AllByRecursion P xs → Contains xs found → P found
  each_listed P found [] each (at, below, is) = absurd (omega arith)
  each_listed P found (x ∷ xs) each there = elim (here_or_later found x xs there) [
    | inl here ↦ subst P here each.0
    | inr there ↦ each_listed P found xs each.1 there
  ]

  -- each item is above the key from which they ascend
  pub each_above : (low : K) (xs : List X) → AscendsFrom R key low xs → AllByRecursion (λ x. R low (key x) ≡ Less) xs
  each_above low [] a = tt
  each_above low (x ∷ xs) a = (a.0, each_above low xs (from_lower o key (key x) low xs (ap is_gt a.0) a.1))

  pub found_first : (x : X) (xs : List X) → find_by R key (key x) (x ∷ xs) ≡ Some x
  found_first x xs = cond-true (eq_by_cmp R (key x) (key x)) (Some x) (find_by R key (key x) xs) (ap is_eq (tied_itself o (key x)))

  -- at keys above the first, what stands behind it is found
  pub found_above : (x : X) (xs : List X) (wanted : K) → R (key x) wanted ≡ Less → find_by R key wanted (x ∷ xs) ≡ find_by R key wanted xs
  found_above x xs wanted above = cond-false (eq_by_cmp R (key x) wanted) (Some x) (find_by R key wanted xs) (ap is_eq above)

  pub listed_found : (found : X) (xs : List X) → Ascends R key xs → Contains xs found → find_by R key (key found) xs ≡ Some found
  listed_found found [] a (at, below, is) = absurd (omega arith)
  listed_found found (x ∷ xs) a there = elim (here_or_later found x xs there) [
    | inl here ↦ subst (λ (y : X). find_by R key (key y) (x ∷ xs) ≡ Some y) here (found_first x xs)
    | inr there ↦
        let above = each_listed (λ y. R (key x) (key y) ≡ Less) found xs (each_above (key x) xs a) there in
        found_above x xs (key found) above ∙ listed_found found xs (ascend_rest o key x xs a) there
  ]

  -- ---- a list is what is found in it

  none_upto : (low wanted : K) (xs : List X) → is_gt (R wanted low) ≡ false → AscendsFrom R key low xs → find_by R key wanted xs ≡ None
  none_upto low wanted [] at_most a = refl
  none_upto low wanted (x ∷ xs) at_most a =
      let below = upto_less o wanted low (key x) at_most a.0 in
      cond-false (eq_by_cmp R (key x) wanted) (Some x) (find_by R key wanted xs) (ap is_eq (less_back o wanted (key x) below))
      ∙ none_upto (key x) wanted xs (ap is_gt below) a.1

  -- the first of a list in which x is found isn't above x
  first_upto : (x : X) (y : X) (ys : List X) → Ascends R key (y ∷ ys) → find_by R key (key x) (y ∷ ys) ≡ Some x → is_gt (R (key y) (key x)) ≡ false
  first_upto x y ys a found = elim (upto_or_less o (key y) (key x)) [
    | inl at_most ↦ at_most
    | inr below ↦
        let missed = cond-false (eq_by_cmp R (key y) (key x)) (Some y) (find_by R key (key x) ys) (ap is_eq (less_back o (key x) (key y) below)) in
        let none = none_upto (key y) (key x) ys (ap is_gt below) a in
        let e : None ≡ Some x = sym (missed ∙ none) ∙ found in cc e
  ]

  -- of two keys of which neither is above the other
  both_upto : (x y : K) → is_gt (R x y) ≡ false → is_gt (R y x) ≡ false → R x y ≡ Equal
  both_upto x y one other = by (R x y) refl
    where
      by : (order : Ordering) → R x y ≡ order → R x y ≡ Equal
      by Less is = not_both o y x other is
      by Equal is = is
      by Greater is = absurd (true≢false (sym (ap is_gt is) ∙ one))

  -- lists in which the same is found are equal
  pub same_lists : (xs ys : List X) → Ascends R key xs → Ascends R key ys → ((wanted : K) → find_by R key wanted xs ≡ find_by R key wanted ys) → xs ≡ ys
  same_lists [] [] a b same = refl
  same_lists [] (y ∷ ys) a b same = let e : None ≡ Some y = same (key y) ∙ found_first y ys in cc e
  same_lists (x ∷ xs) [] a b same = let e : Some x ≡ None = sym (found_first x xs) ∙ same (key x) in cc e
  same_lists (x ∷ xs) (y ∷ ys) a b same =
      let there : find_by R key (key x) (y ∷ ys) ≡ Some x = sym (same (key x)) ∙ found_first x xs in
      let back : find_by R key (key y) (x ∷ xs) ≡ Some y = same (key y) ∙ found_first y ys in
      let one = first_upto x y ys b there in
      let two = first_upto y x xs a back in
      let keys : R (key y) (key x) ≡ Equal = both_upto (key y) (key x) one two in
      let found : find_by R key (key x) (y ∷ ys) ≡ Some y = cond-true (eq_by_cmp R (key y) (key x)) (Some y) (find_by R key (key x) ys) (ap is_eq keys) in
      let first : x ≡ y = cc (there, found) in
      let rest : xs ≡ ys = same_lists xs ys (ascend_rest o key x xs a) (ascend_rest o key y ys b) (λ wanted. elim (upto_or_less o wanted (key x)) [
        | inr above ↦ sym (found_above x xs wanted above) ∙ same wanted ∙ found_above y ys wanted (o.congr (key y) (key x) wanted keys ∙ above)
        | inl at_most ↦ none_upto (key x) wanted xs at_most a ∙ sym (none_upto (key y) wanted ys (ap is_gt (alike_right o (key y) (key x) wanted keys) ∙ at_most) b)
      ]) in
      cc (first, rest)

  -- ---- a list in two parts

  pub each_middle : (P : X → Type 0) (front : List X) (x : X) (back : List X) → AllByRecursion P (front ++ x ∷ back) → P x
  each_middle P [] x back each = each.0
  each_middle P (y ∷ front) x back each = each_middle P front x back each.1

  pub less_before : (front : List X) (x : X) (back : List X) → Ascends R key (front ++ x ∷ back) → AllByRecursion (λ y. R (key y) (key x) ≡ Less) front
  less_before [] x back a = tt
  less_before (y ∷ front) x back a =
      (each_middle (λ z. R (key y) (key z) ≡ Less) front x back (each_above (key y) (front ++ x ∷ back) a), less_before front x back (ascend_rest o key y (front ++ x ∷ back) a))

  pub found_behind : (wanted : K) (front back : List X) → AllByRecursion (λ x. R (key x) wanted ≡ Less) front → find_by R key wanted (front ++ back) ≡ find_by R key wanted back
  found_behind wanted [] back less = refl
  found_behind wanted (x ∷ front) back less = found_above x (front ++ back) wanted less.0 ∙ found_behind wanted front back less.1

  pub middle_found : (front : List X) (x : X) (back : List X) → Ascends R key (front ++ x ∷ back) → find_by R key (key x) (front ++ x ∷ back) ≡ Some x
  middle_found front x back a = found_behind (key x) front (x ∷ back) (less_before front x back a) ∙ found_first x back
