-- Lists in which the keys of the items ascend: look-ups by a key, and updates of the item that has
-- it.
use Rattle.std.specs.Prelude.{◌≡◌, ℕ, ◌<◌, ◌≤◌, List, [], ◌∷◌, length, filter, not, if◌then◌else◌}
use Rattle.std.specs.Prelude.{Option, Result, Ok, Err}
use Rattle.std.specs.List.{find, HoldsAt, AllWithin}
use Rattle.std.specs.Ordering.{eq_by_cmp, match_ordering}
use Rattle.std.specs.declared.cmp.Ordering.{Ordering}
use Rattle.std.specs.declared.cmp.Ordering.TheVariants.{Less, Equal, Greater}

-- ---- the order

-- the keys ascend strictly, from above this one
abbrev pub AscendsFrom : {X K : Type 0} → (K → K → Ordering) → (X → K) → K → List X → Type 0
AscendsFrom cmp key low [] = Unit {0}
AscendsFrom cmp key low (x ∷ xs) = (cmp low (key x) ≡ Less) × AscendsFrom cmp key (key x) xs

-- the keys ascend strictly
abbrev pub Ascends : {X K : Type 0} → (K → K → Ordering) → (X → K) → List X → Type 0
Ascends cmp key [] = Unit {0}
Ascends cmp key (x ∷ xs) = AscendsFrom cmp key (key x) xs

-- where the item of a key stands, or between which items it would stand
abbrev pub IsPlace : {X K : Type 0}
    → (K → K → Ordering) → (X → K) → K → List X → Result ℕ ℕ → Type 0
IsPlace cmp key wanted xs (Ok at) =
    (at < length xs) × HoldsAt (λ x. cmp (key x) wanted ≡ Equal) xs at
IsPlace cmp key wanted xs (Err at) =
    (at ≤ length xs) × AllWithin (λ x. cmp (key x) wanted ≡ Less) xs 0 at
    × AllWithin (λ x. cmp (key x) wanted ≡ Greater) xs at (length xs)

-- ---- look-ups and updates

-- the first item that has the key
abbrev pub find_by : {X K : Type 0} → (K → K → Ordering) → (X → K) → K → List X → Option X
find_by cmp key wanted xs = find (λ x. eq_by_cmp cmp (key x) wanted) xs

-- the list with the item in its place, instead of the one that has its key
abbrev pub put_by : {X K : Type 0} → (K → K → Ordering) → (X → K) → X → List X → List X
put_by cmp key item [] = item ∷ []
put_by cmp key item (x ∷ xs) =
    match_ordering (cmp (key x) (key item))
    (x ∷ put_by cmp key item xs) (item ∷ xs) (item ∷ (x ∷ xs))

-- the list without items of the key
abbrev pub remove_by : {X K : Type 0} → (K → K → Ordering) → (X → K) → K → List X → List X
remove_by cmp key gone xs = filter (λ x. not (eq_by_cmp cmp (key x) gone)) xs

-- the list with the first item of the key changed
abbrev pub update_by : {X K : Type 0}
    → (K → K → Ordering) → (X → K) → K → (X → X) → List X → List X
update_by cmp key wanted change [] = []
update_by cmp key wanted change (x ∷ xs) =
    if eq_by_cmp cmp (key x) wanted then (change x ∷ xs)
    else (x ∷ update_by cmp key wanted change xs)
