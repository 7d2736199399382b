-- Items that are allowed behind those before them: by what each is, and by an order of their keys.
use Rattle.std.proofs.Common.{◌≡◌, ℕ, ◌-◌, true, nat_lt, List, [], ◌∷◌, ◌++◌, length, Option, Some, None, refl, sym, ap, subst, ◌∙◌, arith}
use Rattle.std.specs.Prelude.{slice_get, IfSome}
use Rattle.std.specs.List.{AllByRecursion}
use Rattle.std.specs.declared.cmp.Ordering.{Ordering}
use Rattle.std.specs.declared.cmp.Ordering.TheVariants.{Less}
use Rattle.std.specs.Ordering.{nat_cmp}
use Rattle.std.proofs.lemmas.Bool.{lt-ltb, ltb-true}
use Rattle.std.proofs.lemmas.List.{length-append}
use Rattle.room_base.proofs.OrderedNumbers.{compares_less, lesser_number}
use Rattle.room_base.specs.Ordered.{Ascends, AscendsFrom}
use Rattle.catalog_spelling.specs.Lists.{AllBehind, last_item, by_item, IsAbove}

-- ---- the last of some items

at-end : {X : Type 0} (before : List X) (x : X) → slice_get (before ++ x ∷ []) (length before) ≡ Some x
at-end [] x = refl
at-end (y ∷ before) x = at-end before x

pub last-is : {X : Type 0} (before : List X) (x : X) → last_item (before ++ x ∷ []) ≡ Some x
last-is before x =
    let place : length (before ++ x ∷ []) - 1 ≡ length before = omega (arith, length-append before (x ∷ [])) in
    ap (slice_get (before ++ x ∷ [])) place ∙ at-end before x

-- ---- each by itself

pub each-behind : {X : Type 0} (Is : X → Type 0) (before xs : List X) → AllByRecursion Is xs → AllBehind (λ before x. Is x) before xs
each-behind Is before [] each = tt
each-behind Is before (x ∷ xs) each = (each.0, each-behind Is (before ++ x ∷ []) xs each.1)

pub each-is : {X : Type 0} (Is : X → Type 0) (before xs : List X) → AllBehind (λ before x. Is x) before xs → AllByRecursion Is xs
each-is Is before [] each = tt
each-is Is before (x ∷ xs) each = (each.0, each-is Is (before ++ x ∷ []) xs each.1)

-- ---- in the order of their keys

-- each is allowed by itself, and its key stands above that of the one before it
abbrev pub Rises : {X K : Type 0} → (K → K → Ordering) → (X → K) → (X → Type 0) → List X → X → Type 0
Rises cmp key Is before x = Is x × IsAbove cmp key before x

-- the keys ascend from above an item's, where there is one
abbrev pub AscendsBehind : {X K : Type 0} → (K → K → Ordering) → (X → K) → Option X → List X → Type 0
AscendsBehind cmp key None xs = Ascends cmp key xs
AscendsBehind cmp key (Some x) xs = AscendsFrom cmp key (key x) xs

ascends-on : {X K : Type 0} (cmp : K → K → Ordering) (key : X → K) (last : Option X) (x : X) (xs : List X) → IfSome last (λ y. cmp (key y) (key x) ≡ Less) → AscendsFrom cmp key (key x) xs
    → AscendsBehind cmp key last (x ∷ xs)
ascends-on cmp key None x xs above rest = rest
ascends-on cmp key (Some y) x xs above rest = (above, rest)

ascends-above : {X K : Type 0} (cmp : K → K → Ordering) (key : X → K) (last : Option X) (x : X) (xs : List X) → AscendsBehind cmp key last (x ∷ xs)
    → IfSome last (λ y. cmp (key y) (key x) ≡ Less) × AscendsFrom cmp key (key x) xs
ascends-above cmp key None x xs is = (tt, is)
ascends-above cmp key (Some y) x xs is = is

none-ascend : {X K : Type 0} (cmp : K → K → Ordering) (key : X → K) (last : Option X) → AscendsBehind cmp key last []
none-ascend cmp key None = tt
none-ascend cmp key (Some y) = tt

rises-is : {X K : Type 0} (cmp : K → K → Ordering) (key : X → K) (Is : X → Type 0) (before xs : List X) → AllBehind (Rises cmp key Is) before xs
    → AllByRecursion Is xs × AscendsBehind cmp key (last_item before) xs
rises-is cmp key Is before [] each = (tt, none-ascend cmp key (last_item before))
rises-is cmp key Is before (x ∷ xs) each =
    let more = rises-is cmp key Is (before ++ x ∷ []) xs each.1 in
    let rest : AscendsFrom cmp key (key x) xs = subst (λ (last : _). AscendsBehind cmp key last xs) (last-is before x) more.1 in
    ((each.0.0, more.0), ascends-on cmp key (last_item before) x xs each.0.1 rest)

rises-behind : {X K : Type 0} (cmp : K → K → Ordering) (key : X → K) (Is : X → Type 0) (before xs : List X) → AllByRecursion Is xs → AscendsBehind cmp key (last_item before) xs
    → AllBehind (Rises cmp key Is) before xs
rises-behind cmp key Is before [] each order = tt
rises-behind cmp key Is before (x ∷ xs) each order =
    let parts = ascends-above cmp key (last_item before) x xs order in
    ((each.0, parts.0), rises-behind cmp key Is (before ++ x ∷ []) xs each.1 (subst (λ (last : _). AscendsBehind cmp key last xs) (sym (last-is before x)) parts.1))

pub rising-is : {X K : Type 0} (cmp : K → K → Ordering) (key : X → K) (Is : X → Type 0) (xs : List X) → AllBehind (Rises cmp key Is) [] xs → AllByRecursion Is xs × Ascends cmp key xs
rising-is cmp key Is xs each = rises-is cmp key Is [] xs each

pub rising-behind : {X K : Type 0} (cmp : K → K → Ordering) (key : X → K) (Is : X → Type 0) (xs : List X) → AllByRecursion Is xs → Ascends cmp key xs → AllBehind (Rises cmp key Is) [] xs
rising-behind cmp key Is xs each order = rises-behind cmp key Is [] xs each order

-- ---- numbers that stand above that of the last item

pub above-is : {X : Type 0} (key : X → ℕ) (last : Option X) (number : ℕ) → by_item true (λ (y : X). nat_lt (key y) number) last ≡ true → IfSome last (λ y. nat_cmp (key y) number ≡ Less)
above-is key None number is = tt
above-is key (Some y) number is = compares_less (key y) number (ltb-true (key y) number is)

pub above-again : {X : Type 0} (key : X → ℕ) (last : Option X) (number : ℕ) → IfSome last (λ y. nat_cmp (key y) number ≡ Less) → by_item true (λ (y : X). nat_lt (key y) number) last ≡ true
above-again key None number is = refl
above-again key (Some y) number is = lt-ltb (key y) number (lesser_number (key y) number is)
