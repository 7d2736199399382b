-- What stands in one file of a journal: a head with a snapshot, and the entries behind it.
use Rattle.std.specs.Prelude.{◌≡◌, ◌≢◌, ℕ, ◌+◌, ◌<◌, ◌^◌, Bool, ◌==◌, ◌&&◌, List, [], ◌∷◌, ◌++◌}
use Rattle.std.specs.Prelude.{length, slice_index, if◌then◌else◌}
use Rattle.cat_journal.specs.Layout.{Head, IsHead, front_text, IsEntry, entry_text}

-- in a file of form 2 byte 8 of a payload tells a part; in one of form 1 each entry is a change
abbrev pub is_part : ℕ → List ℕ → Bool
is_part form payload = (form == 2) && (slice_index payload 8 == 14)

-- the number of the last change behind one entry more: a part has none of its own
abbrev pub number_after : ℕ → ℕ → List ℕ → ℕ
number_after form number payload = if is_part form payload then number else number + 1

-- the number of the last change behind these entries
abbrev pub last_of : ℕ → ℕ → List (List ℕ) → ℕ
last_of form number [] = number
last_of form number (payload ∷ payloads) =
    last_of form (number_after form number payload) payloads

-- entries behind a change of that number, with their gates open
abbrev pub entries_text : ℕ → ℕ → List (List ℕ) → List ℕ
entries_text form number [] = []
entries_text form number (payload ∷ payloads) =
    (0x45 ∷ entry_text (number + 1) payload)
    ++ entries_text form (number_after form number payload) payloads

abbrev pub AreEntries : ℕ → ℕ → List (List ℕ) → Type 0
AreEntries form number [] = Unit {0}
AreEntries form number (payload ∷ payloads) = IsEntry (number + 1) payload
    × AreEntries form (number_after form number payload) payloads

pub record Contents : Type 0 where
  pub head : Head
  pub snapshot : List ℕ
  pub payloads : List (List ℕ)

abbrev pub contents_of : Head → List ℕ → List (List ℕ) → Contents
contents_of head snapshot payloads =
    record { head = head; snapshot = snapshot; payloads = payloads }

-- one entry more
abbrev pub with_payload : Contents → List ℕ → Contents
with_payload contents payload =
    contents_of contents.head contents.snapshot (contents.payloads ++ payload ∷ [])

-- the number of the last change
abbrev pub last_number : Contents → ℕ
last_number contents = last_of contents.head.form contents.head.number contents.payloads

-- a file up to its first gate that isn't open
abbrev pub contents_text : Contents → List ℕ
contents_text contents = (0x4A ∷ front_text contents.head contents.snapshot)
    ++ entries_text contents.head.form contents.head.number contents.payloads

-- where that gate stands
abbrev pub gate_of : Contents → ℕ
gate_of contents = length (contents_text contents)

-- a head and a snapshot that a file may have
pub record IsFront (head : Head) (snapshot : List ℕ) : Type 0 where
  pub fields : IsHead head
  pub size : length snapshot < 2 ^ 64

-- contents that a file may have
pub record AreContents (contents : Contents) : Type 0 where
  pub front : IsFront contents.head contents.snapshot
  pub entries : AreEntries contents.head.form contents.head.number contents.payloads

-- there is a gate, and it is closed
abbrev pub IsClosed : List ℕ → Type 0
IsClosed [] = ⊥
IsClosed (gate ∷ rest) = gate ≢ 0x45

-- there is no gate, or it is open and no entry with this number stands behind it
abbrev pub IsBroken : ℕ → List ℕ → Type 0
IsBroken number [] = Unit {0}
IsBroken number (gate ∷ rest) = (gate ≡ 0x45) × ((payload more : List ℕ) → IsEntry number payload
    → rest ≢ entry_text number payload ++ more)

-- the file has these contents, and a closed gate behind them
pub record Holds (bytes : List ℕ) (contents : Contents) : Type 0 where
  pub allowed : AreContents contents
  pub rest : List ℕ
  pub text : bytes ≡ contents_text contents ++ rest
  pub closed : IsClosed rest

-- the file has these contents, and no entry and no closed gate behind them
pub record BreaksBehind (bytes : List ℕ) (contents : Contents) : Type 0 where
  pub allowed : AreContents contents
  pub rest : List ℕ
  pub text : bytes ≡ contents_text contents ++ rest
  pub broken : IsBroken (last_number contents + 1) rest
