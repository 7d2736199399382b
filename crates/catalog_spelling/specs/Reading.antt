-- Reading fields from left to right. What is read is a value and the bytes behind it, or how many
-- bytes there are from the first byte of the first field that isn't allowed on. A field that the
-- bytes end in isn't allowed.
use Rattle.std.specs.Prelude.{◌≡◌, ℕ, Bool, true, false, List, length, Result, Ok, Err, Option}
use Rattle.std.specs.Prelude.{Some, None, if◌then◌else◌}
use Rattle.catalog_spelling.specs.declared.fault.FieldFault.{FieldFault}
use Rattle.catalog_spelling.specs.declared.fault.FieldFault.TheVariants as faults

abbrev pub Part : Type 0 → Type 0
Part X = Result (X × List ℕ) ℕ

infixl 10 ◌>>=◌
abbrev pub ◌>>=◌ : {A B : Type 0} → Result A ℕ → (A → Result B ℕ) → Result B ℕ
(Ok x) >>= f = f x
(Err behind) >>= f = Err behind

-- a field that begins these bytes is judged
abbrev pub checked : {X : Type 0} → (X → Bool) → List ℕ → Part X → Part X
checked allows bytes part = part >>= λ x. if allows x.0 then Ok x else Err (length bytes)

-- a fault is the one that reading gives, unless memory ran out
abbrev pub Fails : {Y : Type 0} → FieldFault → Result Y ℕ → Type 0
Fails faults.Memory read = Unit {0}
Fails (faults.Bad behind) read = read ≡ Err behind

-- what a function returned, seen by view, is what reading gives, unless memory ran out
abbrev pub Gives : {X Y : Type 0} → (X → Y) → Result X FieldFault → Result Y ℕ → Type 0
Gives view (Ok x) read = read ≡ Ok (view x)
Gives view (Err fault) read = Fails fault read

-- the judgement of a field that begins these bytes
abbrev pub Allows : {T : Type 0} → Bool → List ℕ → Result T FieldFault → Type 0
Allows allowed bytes (Ok _) = allowed ≡ true
Allows allowed bytes (Err fault) =
    (allowed ≡ false) × (fault ≡ faults.Bad (length bytes))

-- a byte at the front of these bytes stands for this, or for nothing
abbrev pub Knows : {X : Type 0} → Option X → List ℕ → Result X FieldFault → Type 0
Knows meaning bytes (Ok x) = meaning ≡ Some x
Knows meaning bytes (Err fault) = (meaning ≡ None) × (fault ≡ faults.Bad (length bytes))
