-- The section that covers a place, in sections that follow one another.
use Rattle.std.proofs.Common.{◌≡◌, ℕ, ◌+◌, ◌<◌, ◌≤◌, ◌⊎◌, List, [], ◌∷◌, length, Some, None, refl, sym, ap, ◌∙◌, arith, inl, inr, zero, suc, true, false, Bool}
use Rattle.std.specs.Prelude.{slice_get, slice_index_or}
use Rattle.std.specs.List.{find}
use Rattle.std.specs.List.Sorted.{IsNonDecreasingBy}
use Rattle.std.proofs.lemmas.Bool.{cases_lt}
use Rattle.std.proofs.lemmas.Bool.Decides.{nat_tests}
use Rattle.media_db.specs.declared.copies.Section.{Section}
use Rattle.recover_files.specs.StreamAt.{Follow, covers_place}

-- ---- whether a section covers the place

does_cover : (place : ℕ) (section : Section) → section.from ≤ place → place < section.to → covers_place place section ≡ true
does_cover place section from to = grind (arith, nat_tests)

is_before : (place : ℕ) (section : Section) → section.to ≤ place → covers_place place section ≡ false
is_before place section to = grind (arith, nat_tests)

is_behind : (place : ℕ) (section : Section) → place < section.from → covers_place place section ≡ false
is_behind place section from = grind (arith, nat_tests)

-- the first of a list passes the test
pub find_first : {X : Type 0} (test : X → Bool) (x : X) (xs : List X) → test x ≡ true → find test (x ∷ xs) ≡ Some x
find_first test x xs passes = rw passes refl

pub find_rest : {X : Type 0} (test : X → Bool) (x : X) (xs : List X) → test x ≡ false → find test (x ∷ xs) ≡ find test xs
find_rest test x xs fails = rw fails refl

-- ---- where it is in the list

pub find_covering : (place : ℕ) (sections : List Section) (from i : ℕ) → Follow from sections → from ≤ place
    → ((k : ℕ) (d : Section) → k < i → (slice_index_or sections k d).to ≤ place)
    → ((k : ℕ) (d : Section) → i ≤ k → k < length sections → place < (slice_index_or sections k d).to)
    → find (covers_place place) sections ≡ slice_get sections i
find_covering place [] from i follow above before behind = refl
find_covering place (section ∷ sections) from zero follow above before behind =
    find_first (covers_place place) section sections
    (does_cover place section (omega (arith, follow.0, above)) (behind 0 section (omega arith) (omega arith)))
find_covering place (section ∷ sections) from (suc i) follow above before behind =
    let ended : section.to ≤ place = before 0 section (omega arith) in
    find_rest (covers_place place) section sections (is_before place section ended)
    ∙ find_covering place sections section.to i follow.2 ended
    (λ k d below. before (suc k) d (omega (arith, below)))
    (λ k d from_here inside. behind (suc k) d (omega (arith, from_here)) (omega (arith, inside)))

-- ---- what is found

-- where a section stands to a place
stands : (place : ℕ) (section : Section) → ((section.from ≤ place) × (place < section.to)) ⊎ ((place < section.from) ⊎ (section.to ≤ place))
stands place section = elim (cases_lt place section.from) [
  | inl behind ↦ inr (inl behind)
  | inr from ↦ elim (cases_lt place section.to) [ inl to ↦ inl (from, to) | inr before ↦ inr (inr before) ]
]

same_some : (one other : Section) → Some one ≡ Some other → one ≡ other
same_some one other same = cc same

-- the section that is found covers the place, and begins no earlier than the first
pub record IsCovering (place from : ℕ) (section : Section) : Type 0 where
  pub begins : from ≤ section.from
  pub starts : section.from ≤ place
  pub ends : place < section.to

pub found_covers : (place : ℕ) (sections : List Section) (from : ℕ) (section : Section) → Follow from sections
    → find (covers_place place) sections ≡ Some section → IsCovering place from section
found_covers place [] from section follow found = absurd (cc found)
found_covers place (one ∷ sections) from section follow found = elim (stands place one) [
  | inl inside ↦ (
      let same : one ≡ section = same_some one section (sym (find_first (covers_place place) one sections (does_cover place one inside.0 inside.1)) ∙ found) in
      let begins : from ≤ section.from = omega (arith, follow.0, ap (λ (s : Section). s.from) same) in
      let starts : section.from ≤ place = omega (arith, inside.0, ap (λ (s : Section). s.from) same) in
      let ends : place < section.to = omega (arith, inside.1, ap (λ (s : Section). s.to) same) in
      record { begins = begins; starts = starts; ends = ends })
  | inr (inl behind) ↦ (
      let later = found_covers place sections one.to section follow.2
      (sym (find_rest (covers_place place) one sections (is_behind place one behind)) ∙ found) in
      record { begins = omega (arith, follow.0, follow.1, later.begins); starts = later.starts; ends = later.ends })
  | inr (inr before) ↦ (
      let later = found_covers place sections one.to section follow.2
      (sym (find_rest (covers_place place) one sections (is_before place one before)) ∙ found) in
      record { begins = omega (arith, follow.0, follow.1, later.begins); starts = later.starts; ends = later.ends })
]

-- the same section covers the places behind, up to its end
pub same_later : (place i : ℕ) (sections : List Section) (from : ℕ) (section : Section) → Follow from sections
    → find (covers_place place) sections ≡ Some section → place + i < section.to
    → find (covers_place (place + i)) sections ≡ Some section
same_later place i [] from section follow found inside = absurd (cc found)
same_later place i (one ∷ sections) from section follow found inside = elim (stands place one) [
  | inl here ↦ (
      let same : one ≡ section = same_some one section (sym (find_first (covers_place place) one sections (does_cover place one here.0 here.1)) ∙ found) in
      find_first (covers_place (place + i)) one sections
      (does_cover (place + i) one (omega (arith, here.0)) (omega (arith, inside, ap (λ (s : Section). s.to) same)))
      ∙ ap Some same)
  | inr (inl behind) ↦ (
      let later = found_covers place sections one.to section follow.2
      (sym (find_rest (covers_place place) one sections (is_behind place one behind)) ∙ found) in
      absurd (omega (arith, behind, later.begins, later.starts, follow.1)))
  | inr (inr before) ↦ (
      let rest = sym (find_rest (covers_place place) one sections (is_before place one before)) ∙ found in
      find_rest (covers_place (place + i)) one sections (is_before (place + i) one (omega (arith, before)))
      ∙ same_later place i sections one.to section follow.2 rest inside)
]

-- where none covers a place none covers a later one
pub none_later : (place i : ℕ) (sections : List Section) (from : ℕ) → Follow from sections → from ≤ place
    → find (covers_place place) sections ≡ None → find (covers_place (place + i)) sections ≡ None
none_later place i [] from follow above none = refl
none_later place i (one ∷ sections) from follow above none = elim (stands place one) [
  | inl here ↦ absurd (cc (sym (find_first (covers_place place) one sections (does_cover place one here.0 here.1)) ∙ none))
  | inr (inl behind) ↦ absurd (omega (arith, behind, follow.0, above))
  | inr (inr before) ↦
      find_rest (covers_place (place + i)) one sections (is_before (place + i) one (omega (arith, before)))
      ∙ none_later place i sections one.to follow.2 before
      (sym (find_rest (covers_place place) one sections (is_before place one before)) ∙ none)
]

-- ---- where it is in the list, by a partition

ends_behind : (sections : List Section) (from k : ℕ) (d : Section) → Follow from sections → k < length sections → from < (slice_index_or sections k d).to
ends_behind [] from k d follow inside = absurd (omega (arith, inside))
ends_behind (one ∷ sections) from zero d follow inside = omega (arith, follow.0, follow.1)
ends_behind (one ∷ sections) from (suc k) d follow inside =
    omega (arith, follow.0, follow.1, ends_behind sections one.to k d follow.2 (omega (arith, inside)))

-- the ends of the sections ascend
pub ends_ascend : (sections : List Section) (from : ℕ) → Follow from sections → IsNonDecreasingBy (λ (one : Section). one.to) sections
ends_ascend [] from follow i j d le inside = absurd (omega (arith, inside))
ends_ascend (one ∷ sections) from follow zero zero d le inside = omega arith
ends_ascend (one ∷ sections) from follow zero (suc j) d le inside = omega (arith, ends_behind sections one.to j d follow.2 (omega (arith, inside)))
ends_ascend (one ∷ sections) from follow (suc i) zero d le inside = absurd (omega (arith, le))
ends_ascend (one ∷ sections) from follow (suc i) (suc j) d le inside = ends_ascend sections one.to follow.2 i j d (omega (arith, le)) (omega (arith, inside))
