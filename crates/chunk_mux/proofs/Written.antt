-- Bytes that are written in place of others.
use Rattle.std.proofs.Common.{◌≡◌, ℕ, ◌+◌, ◌≤◌, List, [], ◌++◌, length, take, drop, sym, ap, ◌∙◌, arith, append_assoc}
use Rattle.std.proofs.lemmas.List.{append-nil, drop_all, take_all, length-append, length-take-le, length-drop, take-append-le, take-take, take_at, drop-append-le, drop-take, drop-drop}
use Rattle.std.proofs.Math.Seq.{take-append-add, drop-append-add}
use borrow.Rule.Slice.PartMut.{put_mid, post_of}
use Rattle.chunk_mux.specs.Text.{used_text, written}

pub length-written : (at : ℕ) (text bytes : List ℕ) → at + length text ≤ length bytes → length (written at text bytes) ≡ length bytes
length-written at text bytes fits =
    omega (
      arith,
      length-append (take at bytes) (text ++ drop (at + length text) bytes),
      length-append text (drop (at + length text) bytes),
      length-take-le at bytes (omega (arith, fits)),
      length-drop (at + length text) bytes,
    )

-- what is before it stays
take-written : (n at : ℕ) (text bytes : List ℕ) → n ≤ at → at ≤ length bytes → take n (written at text bytes) ≡ take n bytes
take-written n at text bytes before low =
    take-append-le n (take at bytes) (text ++ drop (at + length text) bytes) (omega (arith, length-take-le at bytes low)) ∙ take-take n at bytes before

-- what is behind the first bytes
pub drop-written : (n at : ℕ) (text bytes : List ℕ) → n + at ≤ length bytes → drop n (written (n + at) text bytes) ≡ written at text (drop n bytes)
drop-written n at text bytes low =
    drop-append-le n (take (n + at) bytes) (text ++ drop (n + at + length text) bytes) (omega (arith, length-take-le (n + at) bytes low))
    ∙ ap (λ (front : List ℕ). front ++ (text ++ drop (n + at + length text) bytes)) (drop-take n at bytes)
    ∙ ap (λ (rest : List ℕ). take at (drop n bytes) ++ (text ++ rest))
    (ap (λ (k : ℕ). drop k bytes) (let same : n + at + length text ≡ n + (at + length text) = omega arith in same)
    ∙ sym (drop-drop (at + length text) n bytes))

-- bytes behind others
pub written-append : (at : ℕ) (text front back : List ℕ) → written (length front + at) text (front ++ back) ≡ front ++ written at text back
written-append at text front back =
    ap (λ (bytes : List ℕ). bytes ++ (text ++ drop (length front + at + length text) (front ++ back))) (take-append-add front back at)
    ∙ ap (λ (rest : List ℕ). (front ++ take at back) ++ (text ++ rest))
    (ap (λ (k : ℕ). drop k (front ++ back)) (let same : length front + at + length text ≡ length front + (at + length text) = omega arith in same)
    ∙ drop-append-add front back (at + length text))
    ∙ append_assoc front (take at back) (text ++ drop (at + length text) back)

-- ---- a payload

-- what is used before it stays
pub used_before : (used at : ℕ) (text data' : List ℕ) → 56 + used ≤ at → at ≤ length data' → used_text used (written at text data') ≡ used_text used data'
used_before used at text data' before low =
    sym (drop-take 56 used (written at text data'))
    ∙ ap (drop 56) (take-written (56 + used) at text data' before low)
    ∙ drop-take 56 used data'

-- a text behind what is used
pub used_grown : (used : ℕ) (text data' : List ℕ) → 56 + used ≤ length data'
    → used_text (used + length text) (written (56 + used) text data') ≡ used_text used data' ++ text
used_grown used text data' low =
    let front = take used (drop 56 data') in
    let rest = drop (used + length text) (drop 56 data') in
    ap (take (used + length text)) (drop-written 56 used text data' low ∙ sym (append_assoc front text rest))
    ∙ take_at (front ++ text) rest (used + length text)
    (length-append front text ∙ omega (arith, length-take-le used (drop 56 data') (omega (arith, length-drop 56 data'))))

-- what a write to `s[at..]` makes
pub written_from : (at size count : ℕ) (text bytes old free : List ℕ) → at + size ≡ length bytes → count ≤ size → length text ≡ count
    → old ≡ take size (drop at bytes) → free ≡ text ++ drop count old → put_mid at size bytes free ≡ written at text bytes
written_from at size count text bytes old free whole fits long old-is is =
    let all : old ≡ drop at bytes = old-is ∙ take_all size (drop at bytes) (omega (arith, length-drop at bytes, whole)) in
    let none : post_of at size bytes ≡ [] = drop_all size (drop at bytes) (omega (arith, length-drop at bytes, whole)) in
    ap (λ (rest : List ℕ). take at bytes ++ (free ++ rest)) none
    ∙ ap (λ (t : List ℕ). take at bytes ++ t) (append-nil free ∙ is ∙ ap (λ (old : List ℕ). text ++ drop count old) all)
    ∙ ap (λ (rest : List ℕ). take at bytes ++ (text ++ rest))
    (drop-drop count at bytes ∙ ap (λ (n : ℕ). drop (at + n) bytes) (sym long))
