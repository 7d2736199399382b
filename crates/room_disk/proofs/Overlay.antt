-- What a write leaves, place by place, and what two writes in a row leave.
use Rattle.std.proofs.Common.{◌≡◌, ℕ, suc, ◌+◌, ◌-◌, ◌<◌, ◌≤◌, List, [], ◌∷◌, ◌++◌, length, take, drop, replicate, get_or, max, refl, sym, ap, ◌∙◌, arith, inl, inr}
use Rattle.std.proofs.lemmas.List.{length-append, length-take, length-drop, length-replicate, get_or_append_left, get_or-append_right, get_or-drop, get_or-replicate, get_or_past, ext_get_or, places}
use Rattle.std.proofs.lemmas.Bool.{cases_lt}
use Rattle.room_disk.specs.Crash.{overlaid, Torn}

-- the front of a file up to a place, with zeros where it ends before
abbrev pub padded : ℕ → List ℕ → List ℕ
padded at file = take at file ++ replicate (at - length file) 0

pub length-padded : (at : ℕ) (file : List ℕ) → length (padded at file) ≡ at
length-padded at file =
    omega (arith, length-append (take at file) (replicate (at - length file) 0), length-take at file, length-replicate {A = ℕ} (at - length file) 0)

pub get_or-padded : (at : ℕ) (file : List ℕ) (k : ℕ) → k < at → get_or (padded at file) k 0 ≡ get_or file k 0
get_or-padded at file k h =
    elim (cases_lt k (length file)) [
      | inl inside ↦ grind (arith, places)
      | inr past ↦ grind (arith, places, get_or_past, get_or-replicate)
    ]

pub length-overlaid : (at : ℕ) (bytes file : List ℕ) → length (overlaid at bytes file) ≡ max (length file) (at + length bytes)
length-overlaid at bytes file =
    omega (
      arith,
      length-append (padded at file ++ bytes) (drop (at + length bytes) file),
      length-append (padded at file) bytes,
      length-padded at file,
      length-drop (at + length bytes) file,
    )

pub overlaid-before : (at : ℕ) (bytes file : List ℕ) (k : ℕ) → k < at → get_or (overlaid at bytes file) k 0 ≡ get_or file k 0
overlaid-before at bytes file k h =
    get_or_append_left (padded at file ++ bytes) (drop (at + length bytes) file) 0 k
    (omega (arith, length-append (padded at file) bytes, length-padded at file))
    ∙ get_or_append_left (padded at file) bytes 0 k (omega (arith, length-padded at file))
    ∙ get_or-padded at file k h

pub overlaid-within : (at : ℕ) (bytes file : List ℕ) (k : ℕ) → at ≤ k → k < at + length bytes
    → get_or (overlaid at bytes file) k 0 ≡ get_or bytes (k - at) 0
overlaid-within at bytes file k from to =
    get_or_append_left (padded at file ++ bytes) (drop (at + length bytes) file) 0 k
    (omega (arith, length-append (padded at file) bytes, length-padded at file))
    ∙ get_or-append_right (padded at file) bytes at k 0 (length-padded at file) from

pub overlaid-behind : (at : ℕ) (bytes file : List ℕ) (k : ℕ) → at + length bytes ≤ k
    → get_or (overlaid at bytes file) k 0 ≡ get_or file k 0
overlaid-behind at bytes file k from =
    let ends : length (padded at file ++ bytes) ≡ at + length bytes =
    omega (arith, length-append (padded at file) bytes, length-padded at file) in
    let place : at + length bytes + (k - (at + length bytes)) ≡ k = omega arith in
    get_or-append_right (padded at file ++ bytes) (drop (at + length bytes) file) (at + length bytes) k 0 ends from
    ∙ get_or-drop (at + length bytes) file (k - (at + length bytes)) 0
    ∙ ap (λ n. get_or file n 0) place

front_place : (at letter : ℕ) (rest file : List ℕ) (k : ℕ)
    → get_or (overlaid at (letter ∷ []) (overlaid (at + 1) rest file)) k 0 ≡ get_or (overlaid at (letter ∷ rest) file) k 0
front_place at letter rest file k =
    elim (cases_lt k at) [
      | inl before ↦ overlaid-before at (letter ∷ []) (overlaid (at + 1) rest file) k before
          ∙ overlaid-before (at + 1) rest file k (omega arith) ∙ sym (overlaid-before at (letter ∷ rest) file k before)
      | inr from ↦ elim (cases_lt at k) [
        | inr here ↦
            overlaid-within at (letter ∷ []) (overlaid (at + 1) rest file) k from (omega arith)
            ∙ (let first : k - at ≡ 0 = omega arith in rw first)
            ∙ sym (overlaid-within at (letter ∷ rest) file k from (omega arith))
        | inl behind ↦
            overlaid-behind at (letter ∷ []) (overlaid (at + 1) rest file) k (omega arith)
            ∙ elim (cases_lt k (at + 1 + length rest)) [
              | inl inside ↦ overlaid-within (at + 1) rest file k (omega arith) inside
                  ∙ (let next : k - at ≡ suc (k - (at + 1)) = omega arith in
                  sym (overlaid-within at (letter ∷ rest) file k from (omega arith) ∙ rw next))
              | inr past ↦ overlaid-behind (at + 1) rest file k past
                  ∙ sym (overlaid-behind at (letter ∷ rest) file k (omega arith))
            ]
      ]
    ]

-- a byte in front of what was written
pub overlaid_front : (at letter : ℕ) (rest file : List ℕ)
    → overlaid at (letter ∷ []) (overlaid (at + 1) rest file) ≡ overlaid at (letter ∷ rest) file
overlaid_front at letter rest file =
    ext_get_or 0 _ _
    (omega (arith, length-overlaid at (letter ∷ []) (overlaid (at + 1) rest file), length-overlaid (at + 1) rest file, length-overlaid at (letter ∷ rest) file))
    (λ k h. front_place at letter rest file k)

-- a torn gate that reads the letter is open before what stands there
pub gate_whole : (at letter : ℕ) (whole new : List ℕ) → at < length whole → Torn at (letter ∷ []) whole new
    → get_or new at 0 ≡ letter → new ≡ overlaid at (letter ∷ []) whole
gate_whole at letter whole new inside torn reads =
    ext_get_or 0 _ _
    (omega (arith, inside, torn.no_shorter, torn.no_longer, length-overlaid at (letter ∷ []) whole))
    (λ k h. elim (cases_lt k at) [
      | inl low ↦ torn.before k low (omega (arith, inside)) ∙ sym (overlaid-before at (letter ∷ []) whole k low)
      | inr from ↦ elim (cases_lt at k) [
        | inl high ↦ torn.behind k (omega arith) (omega (arith, torn.no_longer, inside)) ∙ sym (overlaid-behind at (letter ∷ []) whole k (omega arith))
        | inr here ↦ (let place : k ≡ at = omega arith in
            let gone : k - at ≡ 0 = omega arith in
            let written : get_or (overlaid at (letter ∷ []) whole) k 0 ≡ letter =
            overlaid-within at (letter ∷ []) whole k from (omega arith) ∙ ap (λ n. get_or (letter ∷ []) n 0) gone in
            let read : get_or new k 0 ≡ letter = ap (λ n. get_or new n 0) place ∙ reads in
            read ∙ sym written)
      ]
    ])

-- the same where what stands behind it was written first
pub letter_whole : (at letter : ℕ) (rest old new : List ℕ) → Torn at (letter ∷ []) (overlaid (at + 1) rest old) new
    → get_or new at 0 ≡ letter → new ≡ overlaid at (letter ∷ rest) old
letter_whole at letter rest old new torn reads =
    gate_whole at letter (overlaid (at + 1) rest old) new (omega (arith, length-overlaid (at + 1) rest old)) torn reads
    ∙ overlaid_front at letter rest old

-- a write at the end of a file
pub overlaid_end : (at : ℕ) (bytes file : List ℕ) → at ≡ length file → overlaid at bytes file ≡ file ++ bytes
overlaid_end at bytes file ends =
    ext_get_or 0 _ _
    (omega (arith, ends, length-overlaid at bytes file, length-append file bytes))
    (λ k h. elim (cases_lt k at) [
      | inl low ↦ overlaid-before at bytes file k low ∙ sym (get_or_append_left file bytes 0 k (omega (arith, ends)))
      | inr from ↦ overlaid-within at bytes file k from (omega (arith, ends, length-overlaid at bytes file))
          ∙ sym (get_or-append_right file bytes at k 0 (sym ends) from)
    ])

-- two writes, the second where the first ends
pub overlaid_more : (at : ℕ) (bytes more file : List ℕ)
    → overlaid (at + length bytes) more (overlaid at bytes file) ≡ overlaid at (bytes ++ more) file
overlaid_more at bytes more file =
    let next = at + length bytes in
    let first = overlaid at bytes file in
    let long : length (bytes ++ more) ≡ length bytes + length more = length-append bytes more in
    ext_get_or 0 _ _
    (omega (arith, long, length-overlaid next more first, length-overlaid at bytes file, length-overlaid at (bytes ++ more) file))
    (λ k h. elim (cases_lt k at) [
      | inl low ↦ overlaid-before next more first k (omega arith) ∙ overlaid-before at bytes file k low ∙ sym (overlaid-before at (bytes ++ more) file k low)
      | inr from ↦ elim (cases_lt k next) [
        | inl inside ↦ overlaid-before next more first k inside ∙ overlaid-within at bytes file k from inside
            ∙ sym (overlaid-within at (bytes ++ more) file k from (omega (arith, long)) ∙ get_or_append_left bytes more 0 (k - at) (omega arith))
        | inr behind ↦ elim (cases_lt k (next + length more)) [
          | inl second ↦ overlaid-within next more first k behind second
              ∙ sym (overlaid-within at (bytes ++ more) file k from (omega (arith, long))
              ∙ get_or-append_right bytes more (length bytes) (k - at) 0 refl (omega arith)
              ∙ ap (λ n. get_or more n 0) (let same : k - at - length bytes ≡ k - next = omega arith in same))
          | inr past ↦ overlaid-behind next more first k past ∙ overlaid-behind at bytes file k (omega arith)
              ∙ sym (overlaid-behind at (bytes ++ more) file k (omega (arith, long)))
        ]
      ]
    ])

-- a write at the front of a file
pub overlaid_first : (bytes file : List ℕ) (long : ℕ) → length bytes ≡ long → overlaid 0 bytes file ≡ bytes ++ drop long file
overlaid_first bytes file long is =
    let none : 0 - length file ≡ 0 = omega arith in
    let from : 0 + length bytes ≡ long = omega (arith, is) in
    ap (λ count. replicate {A = ℕ} count 0 ++ bytes ++ drop (0 + length bytes) file) none ∙ ap (λ count. bytes ++ drop count file) from
