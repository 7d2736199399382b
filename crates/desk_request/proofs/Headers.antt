-- Headers that are looked for, and the number that digits write.
use Rattle.std.proofs.Common.{◌≡◌, ℕ, ◌-◌, ◌<◌, ◌≤◌, Bool, true, ◌||◌, List, [], ◌∷◌, ◌++◌, length, map, take, drop, get_or, filter, cond, suc, Option, None, Some, take-append-drop, drop-cons, refl, sym, ap, ◌∙◌, arith}
use Rattle.std.specs.Prelude.{option_to_list, option_map, is_some}
use Rattle.std.specs.List.{list_any}
use Rattle.std.specs.Char.{is_ascii_digit, digit_value}
use Rattle.std.proofs.lemmas.Bool.Decides.{nat_tests}
use Rattle.std.proofs.lemmas.List.{map-append}
use Rattle.std.proofs.lemmas.List.Elements.{filter-append}
use Rattle.desk_request.specs.Framing.{Header, is_named, values_named, length_by}

-- a test of what a function makes of the items
pub any_of_map : {X Y : Type 0} (p : Y → Bool) (f : X → Y) (xs : List X) → list_any p (map f xs) ≡ list_any (λ x. p (f x)) xs
any_of_map p f [] = refl
any_of_map p f (x ∷ xs) = ap (λ b. p (f x) || b) (any_of_map p f xs)

-- the number that a decimal digit writes
pub digit_is : (c : ℕ) → is_ascii_digit c ≡ true → (digit_value c ≡ c - 48) × (48 ≤ c) × (c < 58)
digit_is c digit = (grind (arith, nat_tests), grind (arith, nat_tests), grind (arith, nat_tests))

-- the values of some headers and of those behind them
pub values_named-append : (name : List ℕ) (one other : List Header)
    → values_named name (one ++ other) ≡ values_named name one ++ values_named name other
values_named-append name one other =
    ap (map (λ (header : Header). header.1)) (filter-append (is_named name) one other)
    ∙ map-append (λ (header : Header). header.1) (filter (is_named name) one) (filter (is_named name) other)

-- a header of the name
pub values_named_first : (name : List ℕ) (header : Header) (others : List Header) → is_named name header ≡ true
    → values_named name (header ∷ others) ≡ header.1 ∷ values_named name others
values_named_first name header others named =
    ap (λ b. map (λ (h : Header). h.1) (cond b (header ∷ filter (is_named name) others) (filter (is_named name) others))) named

-- two values allow no length
pub two_values : {X : Type 0} (name : List ℕ) (f : X → Header) (xs : List X) (i : ℕ) (d : X) (value : List ℕ) → i < length xs
    → values_named name (map f (take i xs)) ≡ value ∷ [] → is_named name (f (get_or xs i d)) ≡ true
    → length_by (values_named name (map f xs)) ≡ None
two_values name f xs i d value below one named =
    let x = get_or xs i d in
    let rest = drop (suc i) xs in
    let split : map f xs ≡ map f (take i xs) ++ (f x ∷ map f rest) =
    ap (map f) (sym (take-append-drop i xs)) ∙ map-append f (take i xs) (drop i xs)
    ∙ ap (λ ys. map f (take i xs) ++ map f ys) (drop-cons xs i d below) in
    let all : values_named name (map f xs) ≡ value ∷ ((f x).1 ∷ values_named name (map f rest)) =
    ap (values_named name) split ∙ values_named-append name (map f (take i xs)) (f x ∷ map f rest)
    ∙ ap (λ ys. ys ++ values_named name (f x ∷ map f rest)) one
    ∙ ap (λ ys. value ∷ ys) (values_named_first name (f x) (map f rest) named) in
    ap length_by all

-- the same, where the first is known as one that was found
pub another_value : {X Y : Type 0} (name : List ℕ) (f : X → Header) (g : Y → List ℕ) (xs : List X) (i : ℕ) (d : X) (said : Option Y) → i < length xs
    → values_named name (map f (take i xs)) ≡ option_to_list (option_map g said) → is_some said ≡ true → is_named name (f (get_or xs i d)) ≡ true
    → length_by (values_named name (map f xs)) ≡ None
another_value name f g xs i d None below one some named = cc
another_value name f g xs i d (Some y) below one some named = two_values name f xs i d (g y) below one named
