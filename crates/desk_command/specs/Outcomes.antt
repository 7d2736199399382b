-- What a request, or a part of one, comes to.
use Rattle.std.specs.Prelude.{◌≡◌, ◌⊎◌, List, ℕ, Option, Some, None, Result, Ok, Err}
use Rattle.room_base.specs.declared.refusal.Refusal.{Refusal}
use Rattle.room_base.specs.declared.refusal.Refusal.TheVariants.{Malformed, NoMemory}

-- what is read, or the refusal that is answered in its place
abbrev pub Outcome : Type 0 → Type 0
Outcome X = Result X Refusal

-- the second is read behind the first, where that is read
abbrev pub after : {X Y : Type 0} → Outcome X → (X → Outcome Y) → Outcome Y
after (Ok x) next = next x
after (Err refusal) next = Err refusal

-- a field that has to be there and to be allowed
abbrev pub or_malformed : {X : Type 0} → List ℕ → Option X → Outcome X
or_malformed field (Some x) = Ok x
or_malformed field None = Err (Malformed field)

-- a call answers what is read; it may always lack memory
abbrev pub Answers : {X : Type 0} → Outcome X → Outcome X → Type 0
Answers read result = (result ≡ read) ⊎ (result ≡ Err NoMemory)

-- the same of a call whose answer is seen so
abbrev pub outcome_map : {X Y : Type 0} → (X → Y) → Outcome X → Outcome Y
outcome_map f (Ok x) = Ok (f x)
outcome_map f (Err refusal) = Err refusal
