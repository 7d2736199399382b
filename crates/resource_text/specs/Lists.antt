-- Lists in a table, each item of which stands for something.
use Rattle.std.specs.Prelude.{◌≡◌, ◌⊎◌, ℕ, ◌≤◌, List, [], ◌∷◌, length, Some, None}
use Rattle.toml.specs.Data.{
  Data,
  string,
  array,
  Items,
  no_items,
  item,
  Members,
  no_members,
  member,
  get_member,
}

-- each item stands for something
abbrev pub AreItems : {X : Type 0} → (Data → X → Type 0) → Items → List X → Type 0
AreItems Is no_items xs = xs ≡ []
AreItems {X} Is (item value items) xs =
    (x : X) × (others : List X) × Is value x × AreItems Is items others × (xs ≡ x ∷ others)

-- each key of a table stands for something, with its value
abbrev pub AreEntries : {X : Type 0} → (List ℕ → Data → X → Type 0) → Members → List X → Type 0
AreEntries Is no_members xs = xs ≡ []
AreEntries {X} Is (member key value members) xs =
    (x : X) × (others : List X) × Is key value x × AreEntries Is members others
    × (xs ≡ x ∷ others)

-- a value is a text that stands for something
abbrev pub IsText : {X : Type 0} → (List ℕ → X → Type 0) → Data → X → Type 0
IsText Is value x = (text : List ℕ) × (value ≡ string text) × Is text x

-- items are texts, at most so many
abbrev pub AreTextsTo : {X : Type 0} → ℕ → (List ℕ → X → Type 0) → Items → List X → Type 0
AreTextsTo most Is items xs = AreItems (IsText Is) items xs × (length xs ≤ most)

-- a table has at a key a list of at most so many texts
abbrev pub HasTexts : {X : Type 0}
    → List ℕ → ℕ → (List ℕ → X → Type 0) → Members → List X → Type 0
HasTexts key most Is members xs =
    (items : Items) × (get_member key members ≡ Some (array items)) × AreTextsTo most Is items xs

-- or it hasn't the key, and the list is empty
abbrev pub MayHaveTexts : {X : Type 0}
    → List ℕ → ℕ → (List ℕ → X → Type 0) → Members → List X → Type 0
MayHaveTexts key most Is members xs =
    HasTexts key most Is members xs ⊎ ((get_member key members ≡ None) × (xs ≡ []))
