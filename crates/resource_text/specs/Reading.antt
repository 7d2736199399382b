-- How a table of a text is read: field by field, in a fixed order, up to the first that isn't
-- allowed.
use Rattle.std.specs.Prelude.{◌≡◌, ◌⊎◌, ℕ, List, Bool, true, if◌then◌else◌, codes, nat_eq}
use Rattle.std.specs.Prelude.{Option, Some, None, Result, Ok, Err}
use Rattle.std.specs.List.{list_any}
use Rattle.std.specs.Cmp.Lexicographic.{pointwise}
use Rattle.toml.specs.Data.{Data, string, table, Members, no_members, member, get_member, is_before}
use Rattle.catalog_change.specs.Resources.{IsShortName}
use Rattle.resource_text.specs.declared.fault.TextFault.{TextFault}
use Rattle.resource_text.specs.declared.fault.TextFault.TheVariants.{Malformed, Memory}

-- what a text gives: something, or the name of the first field that isn't allowed
abbrev pub Outcome : Type 0 → Type 0
Outcome X = Result X (List ℕ)

-- what a call answers that reads so; it may always lack memory
abbrev pub Reads : {X : Type 0} → (Outcome X → Type 0) → Result X TextFault → Type 0
Reads Gives (Ok x) = Gives (Ok x)
Reads Gives (Err (Malformed field)) = Gives (Err field)
Reads Gives (Err Memory) = Unit {0}

-- What a call answers that reads one field: what it stands for, or its name where it stands for
-- nothing.
abbrev pub ReadsField : {X : Type 0} → List ℕ → (X → Type 0) → Result X TextFault → Type 0
ReadsField key Is (Ok x) = Is x
ReadsField {X} key Is (Err (Malformed field)) = ((x : X) → ¬ (Is x)) × (field ≡ key)
ReadsField key Is (Err Memory) = Unit {0}

-- the same of a call whose answer is seen so
abbrev pub ReadsAs : {X Y : Type 0} → (X → Y) → List ℕ → (Y → Type 0) → Result X TextFault
    → Type 0
ReadsAs seen key Is (Ok x) = Is (seen x)
ReadsAs {X} {Y} seen key Is (Err (Malformed field)) = ((y : Y) → ¬ (Is y)) × (field ≡ key)
ReadsAs seen key Is (Err Memory) = Unit {0}

-- the same, whatever field its fault names
abbrev pub ReadsAnyFault : {X : Type 0} → (X → Type 0) → Result X TextFault → Type 0
ReadsAnyFault Is (Ok x) = Is x
ReadsAnyFault {X} Is (Err (Malformed field)) = (x : X) → ¬ (Is x)
ReadsAnyFault Is (Err Memory) = Unit {0}

-- a fault names this field, unless memory was short
abbrev pub NamesField : List ℕ → TextFault → Type 0
NamesField field (Malformed name) = name ≡ field
NamesField field Memory = Unit {0}

-- nothing more is read
abbrev pub Ends : {X : Type 0} → X → Outcome X → Type 0
Ends x outcome = outcome ≡ Ok x

-- A field stands for something, and the reading goes on with that. Else it is the first that isn't
-- allowed, and is named.
abbrev pub Field : {X Y : Type 0}
    → List ℕ → (X → Type 0) → (X → Outcome Y → Type 0) → Outcome Y → Type 0
Field {X} key Is Then outcome =
    ((x : X) × Is x × Then x outcome) ⊎ (((x : X) → ¬ (Is x)) × (outcome ≡ Err key))

-- ---- keys

abbrev pub is_among : List (List ℕ) → List ℕ → Bool
is_among keys key = list_any (λ one. pointwise nat_eq one key) keys

-- the first key of a table, in their order, that isn't among these
abbrev pub other_key : List (List ℕ) → Members → Option (List ℕ)
other_key keys no_members = None
other_key keys (member key value members) =
    if is_among keys key then other_key keys members else Some key

-- how a key is named that isn't known
abbrev pub IsCalled : List ℕ → List ℕ → Type 0
IsCalled key name =
    (IsShortName key × (name ≡ key)) ⊎ (¬ (IsShortName key) × (name ≡ codes "key"))

-- a fault names a key that isn't known, unless memory was short
abbrev pub NamesKey : List ℕ → TextFault → Type 0
NamesKey key (Malformed name) = IsCalled key name
NamesKey key Memory = Unit {0}

-- a table has no other keys than these, and the reading goes on; else the first other one is named
abbrev pub HasKeys : {Y : Type 0}
    → List (List ℕ) → Members → (Outcome Y → Type 0) → Outcome Y → Type 0
HasKeys keys members Then outcome =
    ((other_key keys members ≡ None) × Then outcome)
    ⊎ ((key : List ℕ) × (name : List ℕ) × (other_key keys members ≡ Some key)
    × IsCalled key name × (outcome ≡ Err name))

-- what a call answers that judges the keys of a table
abbrev pub ReadsKeys : List (List ℕ) → Members → Result (Unit {0}) TextFault → Type 0
ReadsKeys keys all (Ok _) = other_key keys all ≡ None
ReadsKeys keys all (Err (Malformed name)) =
    (key : List ℕ) × (other_key keys all ≡ Some key) × IsCalled key name
ReadsKeys keys all (Err Memory) = Unit {0}

-- ---- values

-- the keys of a table ascend
abbrev pub KeysAscend : Members → Type 0
KeysAscend no_members = Unit {0}
KeysAscend (member key value members) = (is_before key members ≡ true) × KeysAscend members

-- a value is a table with these members, in the order of their keys
abbrev pub IsTable : Data → Members → Type 0
IsTable value members = (value ≡ table members) × KeysAscend members

-- a text that is allowed stands for itself
abbrev pub IsItself : (List ℕ → Type 0) → List ℕ → List ℕ → Type 0
IsItself Is text name = (name ≡ text) × Is text

-- a table has a text at a key that is allowed
abbrev pub HasText : List ℕ → (List ℕ → Type 0) → Members → List ℕ → Type 0
HasText key Is members text = (get_member key members ≡ Some (string text)) × Is text
