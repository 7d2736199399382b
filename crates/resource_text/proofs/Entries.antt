-- Tables that are read key by key.
use Rattle.std.proofs.Common.{◌≡◌, ℕ, List, [], ◌∷◌, ◌++◌, length, refl, sym, ap, subst, ◌∙◌, suc, string_bytes, Some}
use Rattle.std.proofs.lemmas.List.{append_assoc, append-nil}
use Rattle.std.specs.List.Sorted.{IsStrictlySortedBy}
use Rattle.std.specs.Map.{keys_of}
use Rattle.std.specs.String.{string_cmp}
use Rattle.toml.proofs.Views.{Entry, is_before-sorted}
use Rattle.toml.specs.Data.{Data, string, as_str}
use Rattle.std.proofs.lemmas.Option.{same_Some}
use Rattle.toml.specs.View.{view, members_view}
use Rattle.resource_text.specs.Lists.{AreEntries}
use Rattle.resource_text.specs.Reading.{KeysAscend}

-- Of the entries of a table those before a place are read, as these: with what the rest stands for
-- they are what all stand for, and where all stand for something the rest does.
pub record AreReadSoFar {X : Type 0} (Is : List ℕ → Data → X → Type 0) (entries rest : List Entry)
    (xs : List X) : Type 0 where
  pub joined : (others : List X) → AreEntries Is (members_view rest) others
      → AreEntries Is (members_view entries) (xs ++ others)
  pub parted : (all : List X) → AreEntries Is (members_view entries) all
      → (others : List X) × AreEntries Is (members_view rest) others

pub first_read : {X : Type 0} (Is : List ℕ → Data → X → Type 0) (entries : List Entry)
    → AreReadSoFar Is entries entries []
first_read Is entries = record { joined = λ others are. are; parted = λ all are. (all, are) }

pub next_read : {X : Type 0} (Is : List ℕ → Data → X → Type 0) (entries rest : List Entry)
    (entry : Entry) (xs : List X) (x : X) → AreReadSoFar Is entries (entry ∷ rest) xs
    → Is (string_bytes entry.0) (view entry.1) x → AreReadSoFar Is entries rest (xs ++ x ∷ [])
next_read Is entries rest entry xs x so is = record {
  joined = λ others are. subst (λ all. AreEntries Is (members_view entries) all) (sym (append_assoc xs (x ∷ []) others)) (so.joined (x ∷ others) (x, others, is, are, refl));
  parted = λ all are. rest_are (so.parted all are);
} where
  rest_are : ((others : List _) × AreEntries Is (members_view (entry ∷ rest)) others) → (others : List _) × AreEntries Is (members_view rest) others
  rest_are (all, (x, others, is, are, same)) = (others, are)

pub entries_read : {X : Type 0} (Is : List ℕ → Data → X → Type 0) (entries : List Entry)
    (xs : List X) → AreReadSoFar Is entries [] xs → AreEntries Is (members_view entries) xs
entries_read Is entries xs so = subst (λ all. AreEntries Is (members_view entries) all) (append-nil xs) (so.joined [] refl)

pub entry_stops : {X : Type 0} (Is : List ℕ → Data → X → Type 0) (entries rest : List Entry)
    (entry : Entry) (xs : List X) → AreReadSoFar Is entries (entry ∷ rest) xs
    → ((x : X) → ¬ (Is (string_bytes entry.0) (view entry.1) x))
    → (all : List X) → ¬ (AreEntries Is (members_view entries) all)
entry_stops Is entries rest entry xs so none all are = first_is (so.parted all are)
  where
    first_is : ((others : List _) × AreEntries Is (members_view (entry ∷ rest)) others) → ⊥
    first_is (all, (x, others, is, more, same)) = none x is

pub as_many_entries : {X : Type 0} (Is : List ℕ → Data → X → Type 0) (entries : List Entry)
    (xs : List X) → AreEntries Is (members_view entries) xs → length xs ≡ length entries
as_many_entries Is [] xs are = ap length are
as_many_entries Is (entry ∷ entries) xs (x, others, is, are, same) =
    ap length same ∙ ap suc (as_many_entries Is entries others are)

-- a value is one text
pub one_text : (value : Data) (text other : List ℕ) → as_str value ≡ Some text → value ≡ string other → other ≡ text
one_text value text other is same = same_Some other text (sym (ap as_str same) ∙ is)

-- the keys of a map ascend
pub keys_ascend : (entries : List Entry) → IsStrictlySortedBy string_cmp (keys_of entries) → KeysAscend (members_view entries)
unfolding IsStrictlySortedBy
keys_ascend [] sorted = tt
keys_ascend (entry ∷ entries) sorted = (is_before-sorted entry.0 entries sorted.0, keys_ascend entries sorted.1)
