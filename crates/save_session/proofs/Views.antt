-- Lists that are views of one list: the keys of their items, and what updates make of them.
use Rattle.std.proofs.Common.{◌≡◌, ℕ, zero, suc, ◌<◌, List, [], ◌∷◌, ◌++◌, length, get_or, set, map, take, drop, Result, Ok, Err, Option, Some, IfSome, sym, ap, subst, ◌∙◌, arith}
use Rattle.std.specs.List.{AllByRecursion, insert, remove}
use Rattle.std.specs.Prelude.{OnOk, OnErr}
use Rattle.std.specs.declared.cmp.Ordering.{Ordering}
use Rattle.std.specs.declared.cmp.Ordering.TheVariants.{Less, Equal, Greater}
use Rattle.std.proofs.lemmas.List.{length-map, map-append, take-map, drop-map}
use Rattle.room_base.specs.Ordered.{AscendsFrom, Ascends, IsPlace}

-- ---- keys

module _ {X A B K : Type 0} (R : K → K → Ordering) (f : X → A) (one : A → K) (g : X → B) (other : B → K) (same : (x : X) → one (f x) ≡ other (g x)) where
  from_by : (low : K) (xs : List X) → AscendsFrom R one low (map f xs) → AscendsFrom R other low (map g xs)
  from_by low [] a = tt
  from_by low (x ∷ xs) a =
      (subst (λ (k : K). R low k ≡ Less) (same x) a.0, subst (λ (k : K). AscendsFrom R other k (map g xs)) (same x) (from_by (one (f x)) xs a.1))

  -- views with the same keys ascend alike
  pub ascends_by : (xs : List X) → Ascends R one (map f xs) → Ascends R other (map g xs)
  ascends_by [] a = tt
  ascends_by (x ∷ xs) a = subst (λ (k : K). AscendsFrom R other k (map g xs)) (same x) (from_by (one (f x)) xs a)

  key_at : (xs : List X) (i : ℕ) → i < length xs → (a : A) (b : B) → one (get_or (map f xs) i a) ≡ other (get_or (map g xs) i b)
  key_at [] i within a b = absurd (omega arith)
  key_at (x ∷ xs) zero within a b = same x
  key_at (x ∷ xs) (suc i) within a b = key_at xs i (omega arith) a b

  some_at : (xs : List X) (i : ℕ) → i < length xs → A
  some_at [] i within = absurd (omega arith)
  some_at (x ∷ xs) i within = f x

  holds_by : (order : Ordering) (k : K) (xs : List X) (i : ℕ) → i < length xs → ((a : A) → R (one (get_or (map f xs) i a)) k ≡ order) → (b : B) → R (other (get_or (map g xs) i b)) k ≡ order
  holds_by order k xs i within has b =
      subst (λ (key : K). R key k ≡ order) (key_at xs i within (some_at xs i within) b) (has (some_at xs i within))

  -- and have the item of a key at the same place
  pub place_by : (k : K) (xs : List X) (r : Result ℕ ℕ) → IsPlace R one k (map f xs) r → IsPlace R other k (map g xs) r
  place_by k xs (Ok at) place =
      (omega (arith, place.0, length-map xs f, length-map xs g), holds_by Equal k xs at (omega (arith, place.0, length-map xs f)) place.1)
  place_by k xs (Err at) place = (
    omega (arith, place.0, length-map xs f, length-map xs g),
    λ i b low high. holds_by Less k xs i (omega (arith, high, place.0, length-map xs f)) (λ a. place.1 i a low high) b,
    λ i b low high. holds_by Greater k xs i (omega (arith, high, length-map xs g)) (λ a. place.2 i a low (omega (arith, high, length-map xs g, length-map xs f))) b,
  )

-- ---- updates

module _ {X A : Type 0} (f : X → A) where
  pub map-insert : (xs : List X) (at : ℕ) (x : X) → map f (insert xs at x) ≡ insert (map f xs) at (f x)
  map-insert xs at x =
      map-append f (take at xs) (x ∷ drop at xs)
      ∙ ap (λ ys. ys ++ f x ∷ map f (drop at xs)) (sym (take-map f at xs))
      ∙ ap (λ ys. take at (map f xs) ++ f x ∷ ys) (sym (drop-map f at xs))

  pub map-remove : (xs : List X) (at : ℕ) → map f (remove xs at) ≡ remove (map f xs) at
  map-remove xs at =
      map-append f (take at xs) (drop (suc at) xs)
      ∙ ap (λ ys. ys ++ map f (drop (suc at) xs)) (sym (take-map f at xs))
      ∙ ap (λ ys. take at (map f xs) ++ ys) (sym (drop-map f (suc at) xs))

module _ {X : Type 0} (P : X → Type 0) where
  pub each_set : (xs : List X) (at : ℕ) (x : X) → AllByRecursion P xs → P x → AllByRecursion P (set xs at x)
  each_set [] at x each one = tt
  each_set (y ∷ xs) zero x each one = (one, each.1)
  each_set (y ∷ xs) (suc at) x each one = (each.0, each_set xs at x each.1 one)

  pub each_inserted : (xs : List X) (at : ℕ) (x : X) → AllByRecursion P xs → P x → AllByRecursion P (insert xs at x)
  each_inserted [] zero x each one = (one, tt)
  each_inserted [] (suc at) x each one = (one, tt)
  each_inserted (y ∷ xs) zero x each one = (one, each)
  each_inserted (y ∷ xs) (suc at) x each one = (each.0, each_inserted xs at x each.1 one)

  pub each_left : (xs : List X) (at : ℕ) → AllByRecursion P xs → AllByRecursion P (remove xs at)
  each_left [] zero each = tt
  each_left [] (suc at) each = tt
  each_left (y ∷ xs) zero each = each.1
  each_left (y ∷ xs) (suc at) each = (each.0, each_left xs at each.1)

  pub one_at : (xs : List X) (at : ℕ) (d : X) → at < length xs → AllByRecursion P xs → P (get_or xs at d)
  one_at [] at d within each = absurd (omega arith)
  one_at (y ∷ xs) zero d within each = each.0
  one_at (y ∷ xs) (suc at) d within each = one_at xs at d (omega arith) each.1

-- ---- answers

pub on_ok : {X E : Type 0} {P Q : Type 0} (r : Result X E) → (P → Q) → OnOk r P → OnOk r Q
on_ok (Ok x) then p = then p
on_ok (Err e) then p = tt

pub on_err : {X E : Type 0} {P Q : Type 0} (r : Result X E) → (P → Q) → OnErr r P → OnErr r Q
on_err (Ok x) then p = tt
on_err (Err e) then p = then p

-- what each value has that is there, a value has that is there
pub of_some : {X : Type 0} (P : X → Type 0) (o : Option X) (x : X) → o ≡ Some x → IfSome o P → P x
of_some {X = X} P o x is has = subst (λ (found : Option X). IfSome found P) is has

pub to_some : {X : Type 0} (P : X → Type 0) (o : Option X) (x : X) → o ≡ Some x → P x → IfSome o P
to_some {X = X} P o x is has = subst (λ (found : Option X). IfSome found P) (sym is) has
