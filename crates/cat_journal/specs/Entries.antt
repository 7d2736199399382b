-- The entries that are read of a file.
use Rattle.std.specs.Prelude.{◌≡◌, ℕ, ◌+◌, ◌<◌, ◌≤◌, Bool, true, false, List, [], ◌∷◌, ◌++◌}
use Rattle.std.specs.Prelude.{length, map, IsTrue}
use Rattle.cat_journal.specs.Contents.{number_after, last_of, entries_text, AreEntries, IsClosed}
use Rattle.cat_journal.specs.Contents.{IsBroken}
use Rattle.cat_journal.specs.declared.entry_list.Entry.{Entry}
use Rattle.cat_journal.specs.declared.entry_list.EntryList.{EntryList}

abbrev pub entry_at : ℕ → ℕ → List ℕ → Entry
entry_at number place payload = record { number = number; place = place; bytes = payload }

-- entries with these bytes, behind a change of that number, the first of them at that place
abbrev pub entries_of : ℕ → ℕ → ℕ → List (List ℕ) → List Entry
entries_of form number place [] = []
entries_of form number place (payload ∷ payloads) = entry_at (number + 1) place payload
    ∷ entries_of form (number_after form number payload) (place + (45 + length payload)) payloads

-- behind them stands a closed gate, or none and no entry
abbrev pub EndsSo : Bool → ℕ → List ℕ → Type 0
EndsSo true number rest = IsClosed rest
EndsSo false number rest = IsBroken number rest

-- these bytes are entries up to the end, and the list is they
pub record FindsEntries (form number place : ℕ) (bytes : List ℕ) (list : EntryList) : Type 0 where
  pub payloads : List (List ℕ)
  pub rest : List ℕ
  pub are : AreEntries form number payloads
  pub text : bytes ≡ entries_text form number payloads ++ rest
  pub listed : list.entries ≡ entries_of form number place payloads
  pub final : list.last ≡ last_of form number payloads
  pub placed : list.gate ≡ place + length (entries_text form number payloads)
  pub ends : EndsSo list.closed (list.last + 1) rest

-- the gate stands in the file
pub record HasRange (end : ℕ) (list : EntryList) : Type 0 where
  pub within : list.gate ≤ end
  pub inside : IsTrue list.closed → list.gate < end

-- the list with one entry more
abbrev pub with_entry : ℕ → EntryList → List ℕ → EntryList
with_entry form list payload = record {
  entries = list.entries ++ entry_at (list.last + 1) list.gate payload ∷ [];
  last = number_after form list.last payload;
  gate = list.gate + (45 + length payload);
  closed = list.closed;
}

-- the bytes of each entry
abbrev pub payloads_of : List Entry → List (List ℕ)
payloads_of entries = map (λ (entry : Entry). entry.bytes) entries

-- the number of the last change is the one behind these entries
abbrev pub IsCounted : ℕ → ℕ → EntryList → Type 0
IsCounted form number list = list.last ≡ last_of form number (payloads_of list.entries)
