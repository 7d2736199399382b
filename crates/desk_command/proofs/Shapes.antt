-- Which paths have the pattern of a shape.
use Rattle.std.proofs.Common.{◌≡◌, ◌≢◌, ℕ, suc, ◌<◌, List, [], ◌∷◌, ◌++◌, length, Bool, true, false, not, ◌&&◌, ◌||◌, nat_lt, ltb, cond, refl, sym, ap, ◌∙◌, subst, arith, nat_eq, ◌==◌, inl, inr, ◌⊎◌, append_assoc}
use Rattle.std.specs.List.{list_any, list_all}
use Rattle.std.proofs.lemmas.Bool.{and_parts, and_from}
use Rattle.std.proofs.lemmas.Bool.Decides.{nat_tests}
use Rattle.desk_command.specs.Places.{Any, Matches, Piece, Word, pattern_of}
use Rattle.desk_command.specs.Routes.{behind_slash, is_part, is_slash, slash, target_of}
use Rattle.desk_command.proofs.Seeking.{after_part, fits}
use Rattle.desk_command.proofs.Truths.{not_true, or_false, same}

-- a word of a shape is a part, of bytes
abbrev pub is_word : List ℕ → Bool
is_word word = is_part word && list_all (λ byte. ltb byte 256) word

abbrev pub is_shape : List Piece → Bool
is_shape [] = true
is_shape (Word word ∷ shape) = is_word word && is_shape shape
is_shape (Any ∷ shape) = is_shape shape

same_back : (a b : ℕ) → a ≡ b → a == b ≡ true
same_back a b e = grind (arith, nat_tests)

-- a part has no slash
pub free_part : (part : List ℕ) → is_part part ≡ true → list_any is_slash part ≡ false
free_part part is = not_true (list_any is_slash part) (and_parts (nat_lt 0 (length part)) (not (list_any is_slash part)) is).1

cons_same : (x b : ℕ) (p q : List ℕ) → x ≡ b → p ≡ q → b ∷ p ≡ x ∷ q
cons_same x b p q e f = cc

some_length : (n : ℕ) → ltb 0 (suc n) ≡ true
some_length n = grind (arith, nat_tests)

-- ---- words

word_fits : (word rest path : List ℕ) → list_all (λ byte. ltb byte 256) word ≡ true → fits (word ++ rest) path ≡ true
    → (left : List ℕ) × (path ≡ word ++ left) × (fits rest left ≡ true)
word_fits [] rest path bytes h = (path, refl, h)
word_fits (x ∷ word) rest [] bytes h = cc
word_fits (x ∷ word) rest (b ∷ path) bytes h =
    let each = and_parts (ltb x 256) (list_all (λ byte. ltb byte 256) word) bytes in
    let other : (x == 256) ≡ false = grind (arith, nat_tests, each.0) in
    let parts = and_parts (x == b) (fits (word ++ rest) path) (rw other at h) in
    let more = word_fits word rest path each.1 parts.1 in
    (more.0, cons_same x b path (word ++ more.0) (same x b parts.0) more.1, more.2)

fits_word : (word rest left : List ℕ) → list_all (λ byte. ltb byte 256) word ≡ true → fits rest left ≡ true
    → fits (word ++ rest) (word ++ left) ≡ true
fits_word [] rest left bytes h = h
fits_word (x ∷ word) rest left bytes h =
    let each = and_parts (ltb x 256) (list_all (λ byte. ltb byte 256) word) bytes in
    let other : (x == 256) ≡ false = grind (arith, nat_tests, each.0) in
    rw other (and_from (x == x) (fits (word ++ rest) (word ++ left)) (same_back x x refl) (fits_word word rest left each.1 h))

-- ---- parts

-- the part that a path begins with
abbrev before_part : List ℕ → List ℕ
before_part [] = []
before_part (b ∷ p) = cond (b == 47) [] (b ∷ before_part p)

part_joined : (p : List ℕ) → p ≡ before_part p ++ after_part p
part_joined [] = refl
part_joined (b ∷ p) =
    let h = part_joined p in
    elim (b == 47) as (λ v. b ∷ p ≡ cond v [] (b ∷ before_part p) ++ cond v (b ∷ p) (after_part p)) [
      | true ↦ refl
      | false ↦ ap (λ x. b ∷ x) h
    ]

before_free : (p : List ℕ) → list_any is_slash (before_part p) ≡ false
before_free [] = refl
before_free (b ∷ p) = by (b == 47) refl (before_free p)
  where
    by : (v : Bool) → (b == 47) ≡ v → list_any is_slash (before_part p) ≡ false → list_any is_slash (before_part (b ∷ p)) ≡ false
    by true e ih = rw e refl
    by false e ih = rw (e, e) ih

-- what follows a part without a slash is the end, or begins with a slash
after_free : (part : List ℕ) (parts : List (List ℕ)) → list_any is_slash part ≡ false → after_part (part ++ target_of parts) ≡ target_of parts
after_free [] [] h = refl
after_free [] (next ∷ parts) h = refl
after_free (b ∷ part) parts h =
    let o = or_false (is_slash b) (list_any is_slash part) h in rw o.0 (after_free part parts o.1)

part_fits : (rest path : List ℕ) → fits (256 ∷ rest) path ≡ true
    → (part : List ℕ) × (left : List ℕ) × (is_part part ≡ true) × (path ≡ part ++ left) × (fits rest left ≡ true)
part_fits rest [] h = cc
part_fits rest (c ∷ p) h =
    let parts = and_parts (not (c == 47)) (fits rest (after_part p)) h in
    let n = not_true (c == 47) parts.0 in
    let free : not (list_any is_slash (c ∷ before_part p)) ≡ true = rw (n, before_free p) refl in
    (c ∷ before_part p, after_part p, and_from (ltb 0 (suc (length (before_part p)))) (not (list_any is_slash (c ∷ before_part p))) (some_length (length (before_part p))) free, ap (λ x. c ∷ x) (part_joined p), parts.1)

fits_part : (rest part : List ℕ) (parts : List (List ℕ)) → is_part part ≡ true → fits rest (target_of parts) ≡ true
    → fits (256 ∷ rest) (part ++ target_of parts) ≡ true
fits_part rest [] parts is h = cc
fits_part rest (c ∷ part) parts is h =
    let free = not_true (list_any is_slash (c ∷ part)) (and_parts (nat_lt 0 (length (c ∷ part))) (not (list_any is_slash (c ∷ part))) is).1 in
    let o = or_false (is_slash c) (list_any is_slash part) free in
    rw (o.0, after_free part parts o.1) h

-- ---- shapes

pub shape_fits : (shape : List Piece) (path : List ℕ) → is_shape shape ≡ true → fits (pattern_of shape) path ≡ true
    → (parts : List (List ℕ)) × Matches shape parts × (path ≡ target_of parts)
shape_fits [] [] is h = ([], tt, refl)
shape_fits [] (b ∷ path) is h = cc
shape_fits (Word word ∷ shape) [] is h = cc
shape_fits (Word word ∷ shape) (b ∷ path) is h =
    let good = and_parts (is_word word) (is_shape shape) is in
    let bytes = and_parts (is_part word) (list_all (λ byte. ltb byte 256) word) good.0 in
    let first = and_parts (47 == b) (fits (word ++ pattern_of shape) path) h in
    let w = word_fits word (pattern_of shape) path bytes.1 first.1 in
    let more = shape_fits shape w.0 good.1 w.2 in (
      word ∷ more.0,
      (refl, more.1),
      cons_same 47 b path (word ++ target_of more.0) (same 47 b first.0) (w.1 ∙ ap (λ left. word ++ left) more.2),
    )
shape_fits (Any ∷ shape) [] is h = cc
shape_fits (Any ∷ shape) (b ∷ path) is h =
    let first = and_parts (47 == b) (fits (256 ∷ pattern_of shape) path) h in
    let w = part_fits (pattern_of shape) path first.1 in
    let more = shape_fits shape w.1 is w.4 in (
      w.0 ∷ more.0,
      (w.2, more.1),
      cons_same 47 b path (w.0 ++ target_of more.0) (same 47 b first.0) (w.3 ∙ ap (λ left. w.0 ++ left) more.2),
    )

pub fits_shape : (shape : List Piece) (parts : List (List ℕ)) → is_shape shape ≡ true → Matches shape parts
    → fits (pattern_of shape) (target_of parts) ≡ true
fits_shape [] [] is m = refl
fits_shape [] (part ∷ parts) is m = absurd m
fits_shape (Word word ∷ shape) [] is m = absurd m
fits_shape (Word word ∷ shape) (part ∷ parts) is m =
    let good = and_parts (is_word word) (is_shape shape) is in
    let bytes = and_parts (is_part word) (list_all (λ byte. ltb byte 256) word) good.0 in
    rw m.0 (fits_word word (pattern_of shape) (target_of parts) bytes.1 (fits_shape shape parts good.1 m.1))
fits_shape (Any ∷ shape) [] is m = absurd m
fits_shape (Any ∷ shape) (part ∷ parts) is m = fits_part (pattern_of shape) part parts m.0 (fits_shape shape parts is m.1)
