-- Lists: a count, and items one behind the other. What is allowed of an item may depend on those
-- before it.
use Rattle.std.specs.Prelude.{◌≡◌, ℕ, zero, suc, ◌-◌, List, [], ◌∷◌, ◌++◌, length, slice_get}
use Rattle.std.specs.Prelude.{Option, Some, None, Ok, IfSome}
use Rattle.std.specs.List.{flat_map}
use Rattle.std.specs.declared.cmp.Ordering.{Ordering}
use Rattle.std.specs.declared.cmp.Ordering.TheVariants.{Less}
use Rattle.catalog_spelling.specs.Reading.{Part, ◌>>=◌}

-- so many items behind these, with these
unfoldable pub items_at : {X : Type 0} → (List X → List ℕ → Part X) → ℕ → List X → List ℕ
    → Part (List X)
items_at item_at zero before bytes = Ok (before, bytes)
items_at item_at (suc count) before bytes = do
  item ← item_at before bytes
  items_at item_at count (before ++ item.0 ∷ []) item.1

-- a count, and as many items
unfoldable pub list_at : {X : Type 0} → (List ℕ → Part ℕ) → (List X → List ℕ → Part X) → List ℕ
    → Part (List X)
list_at count_at item_at bytes = do
  count ← count_at bytes
  items_at item_at count.0 [] count.1

abbrev pub list_text : {X : Type 0} → (ℕ → List ℕ) → (X → List ℕ) → List X → List ℕ
list_text count_text item_text items = count_text (length items) ++ flat_map item_text items

-- each item is allowed behind those before it
abbrev pub AllBehind : {X : Type 0} → (List X → X → Type 0) → List X → List X → Type 0
AllBehind IsBehind before [] = Unit {0}
AllBehind IsBehind before (x ∷ xs) = IsBehind before x × AllBehind IsBehind (before ++ x ∷ []) xs

-- the last of these items, where there is one
abbrev pub last_item : {X : Type 0} → List X → Option X
last_item before = slice_get before (length before - 1)

-- what follows from an item, where there is one
abbrev pub by_item : {X Y : Type 0} → Y → (X → Y) → Option X → Y
by_item none some None = none
by_item none some (Some x) = some x

-- the key of an item stands above that of the last one
abbrev pub IsAbove : {X K : Type 0} → (K → K → Ordering) → (X → K) → List X → X → Type 0
IsAbove cmp key before x = IfSome (last_item before) (λ last. cmp (key last) (key x) ≡ Less)
