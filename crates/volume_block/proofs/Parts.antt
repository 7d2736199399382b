-- A block's bytes are spelled by its fields, where its form, its length and its digest are right.
use Rattle.std.proofs.Common.{◌≡◌, ℕ, ◌+◌, ◌-◌, ◌<◌, ◌≤◌, List, [], ◌∷◌, ◌++◌, length, take, drop, replicate, slice_index, refl, sym, ap, ◌∙◌, arith, inl, inr}
use Rattle.std.proofs.lemmas.Bool.{cases_lt}
use Rattle.std.proofs.lemmas.List.{get_or-take, get_or-drop, get_or_past, length-take, length-take-le, length-drop, take-append-drop, drop-drop}
use Rattle.std.proofs.lemmas.Nat.{be_bytes_2, be_bytes_4, be_bytes_8}
use Rattle.std.proofs.Math.Seq.{take-add}
use Rattle.byteorder.specs.Endian.{big_bytes, big_number}
use Rattle.volume_block.specs.Layout.{form_of, units_told, head_text, with_digest, block_text}
use Rattle.volume_block.specs.Why.{kind_in, units_in, used_in, volid_in, number_in, payload_in, HasForm, IsPadded, HasDigest}
use Rattle.volume_block.proofs.Whole.{block_is}

abbrev pub IsBytes : List ℕ → Type 0
IsBytes bytes = (i : ℕ) → slice_index bytes i < 256

pub IsBytes-drop : (n : ℕ) (bytes : List ℕ) → IsBytes bytes → IsBytes (drop n bytes)
IsBytes-drop n bytes h i = rw get_or-drop (h (n + i))

pub IsBytes-take : (n : ℕ) (bytes : List ℕ) → IsBytes bytes → IsBytes (take n bytes)
IsBytes-take n bytes h i =
    elim (cases_lt i n) [
      | inl lt ↦ rw (get_or-take n bytes i 0 lt) (h i)
      | inr le ↦ rw (get_or_past (take n bytes) i 0 (omega (arith, length-take n bytes))) (omega arith)
    ]

-- ---- numbers

pub bytes_of_2 : (bytes : List ℕ) → 2 ≤ length bytes → IsBytes bytes → big_bytes 2 (big_number 2 bytes) ≡ take 2 bytes
bytes_of_2 bytes long fits =
    be_bytes_2 (take 2 bytes) (big_number 2 bytes) (length-take-le 2 bytes long) (IsBytes-take 2 bytes fits)
    (omega (arith, get_or-take 2 bytes 0 0 (omega arith), get_or-take 2 bytes 1 0 (omega arith)))

pub bytes_of_4 : (bytes : List ℕ) → 4 ≤ length bytes → IsBytes bytes → big_bytes 4 (big_number 4 bytes) ≡ take 4 bytes
bytes_of_4 bytes long fits =
    be_bytes_4 (take 4 bytes) (big_number 4 bytes) (length-take-le 4 bytes long) (IsBytes-take 4 bytes fits)
    (omega (arith, get_or-take 4 bytes 0 0 (omega arith), get_or-take 4 bytes 1 0 (omega arith), get_or-take 4 bytes 2 0 (omega arith), get_or-take 4 bytes 3 0 (omega arith)))

pub bytes_of_8 : (bytes : List ℕ) → 8 ≤ length bytes → IsBytes bytes → big_bytes 8 (big_number 8 bytes) ≡ take 8 bytes
bytes_of_8 bytes long fits =
    be_bytes_8 (take 8 bytes) (big_number 8 bytes) (length-take-le 8 bytes long) (IsBytes-take 8 bytes fits)
    (omega (
      arith,
      get_or-take 8 bytes 0 0 (omega arith),
      get_or-take 8 bytes 1 0 (omega arith),
      get_or-take 8 bytes 2 0 (omega arith),
      get_or-take 8 bytes 3 0 (omega arith),
      get_or-take 8 bytes 4 0 (omega arith),
      get_or-take 8 bytes 5 0 (omega arith),
      get_or-take 8 bytes 6 0 (omega arith),
      get_or-take 8 bytes 7 0 (omega arith),
    ))

-- ---- the head

first_two : (bytes : List ℕ) → 2 ≤ length bytes → take 2 bytes ≡ slice_index bytes 0 ∷ slice_index bytes 1 ∷ []
first_two [] long = absurd (omega arith)
first_two (a ∷ []) long = absurd (omega arith)
first_two (a ∷ b ∷ rest) long = refl

-- the first 24 bytes, by the places of the fields
in_fields : (bytes : List ℕ)
    → take 24 bytes ≡ take 2 bytes ++ take 2 (drop 2 bytes) ++ take 4 (drop 4 bytes) ++ take 8 (drop 8 bytes) ++ take 8 (drop 16 bytes)
in_fields bytes =
    take-add 16 8 bytes
    ∙ ap (λ (t : List ℕ). t ++ take 8 (drop 16 bytes))
    (take-add 8 8 bytes ∙ ap (λ (t : List ℕ). t ++ take 8 (drop 8 bytes))
    (take-add 4 4 bytes ∙ ap (λ (t : List ℕ). t ++ take 4 (drop 4 bytes)) (take-add 2 2 bytes)))

pub head_is : (bytes : List ℕ) → 24 ≤ length bytes → IsBytes bytes → HasForm bytes
    → take 24 bytes ≡ head_text (kind_in bytes) (units_in bytes) (used_in bytes) (volid_in bytes) (number_in bytes)
head_is bytes long fits form =
    let first : take 2 bytes ≡ kind_in bytes ∷ form_of (units_in bytes) ∷ [] =
    first_two bytes (omega arith) ∙ ap (λ (f : ℕ). kind_in bytes ∷ f ∷ []) form.1 in
    let told : take 2 (drop 2 bytes) ≡ big_bytes 2 (units_told (units_in bytes)) =
    sym (bytes_of_2 (drop 2 bytes) (omega (arith, length-drop 2 bytes)) (IsBytes-drop 2 bytes fits)) ∙ ap (big_bytes 2) form.2 in
    let used = bytes_of_4 (drop 4 bytes) (omega (arith, length-drop 4 bytes)) (IsBytes-drop 4 bytes fits) in
    let volid = bytes_of_8 (drop 8 bytes) (omega (arith, length-drop 8 bytes)) (IsBytes-drop 8 bytes fits) in
    let number = bytes_of_8 (drop 16 bytes) (omega (arith, length-drop 16 bytes)) (IsBytes-drop 16 bytes fits) in
    let front = (kind_in bytes ∷ form_of (units_in bytes) ∷ []) ++ big_bytes 2 (units_told (units_in bytes)) in
    in_fields bytes
    ∙ ap (λ (t : List ℕ). t ++ take 2 (drop 2 bytes) ++ take 4 (drop 4 bytes) ++ take 8 (drop 8 bytes) ++ take 8 (drop 16 bytes)) first
    ∙ ap (λ (t : List ℕ). (kind_in bytes ∷ form_of (units_in bytes) ∷ []) ++ t ++ take 4 (drop 4 bytes) ++ take 8 (drop 8 bytes) ++ take 8 (drop 16 bytes)) told
    ∙ ap (λ (t : List ℕ). front ++ t ++ take 8 (drop 8 bytes) ++ take 8 (drop 16 bytes)) (sym used)
    ∙ ap (λ (t : List ℕ). front ++ big_bytes 4 (used_in bytes) ++ t ++ take 8 (drop 16 bytes)) (sym volid)
    ∙ ap (λ (t : List ℕ). front ++ big_bytes 4 (used_in bytes) ++ big_bytes 8 (volid_in bytes) ++ t) (sym number)

-- ---- the whole

in_parts : (bytes : List ℕ) → bytes ≡ take 24 bytes ++ take 32 (drop 24 bytes) ++ drop 56 bytes
in_parts bytes =
    sym (take-append-drop 56 bytes) ∙ ap (λ (t : List ℕ). t ++ drop 56 bytes) (take-add 24 32 bytes)

padding_is : (skip used size : ℕ) (bytes : List ℕ) → drop (skip + used) bytes ≡ replicate (size - used) 0
    → drop skip bytes ≡ take used (drop skip bytes) ++ replicate (size - used) 0
padding_is skip used size bytes zeros =
    sym (take-append-drop used (drop skip bytes))
    ∙ ap (λ (t : List ℕ). take used (drop skip bytes) ++ t) (drop-drop used skip bytes ∙ zeros)

pub spelled : (bytes : List ℕ) → IsBytes bytes → HasForm bytes → IsPadded bytes → HasDigest bytes
    → bytes ≡ block_text (kind_in bytes) (units_in bytes) (length bytes) (volid_in bytes) (number_in bytes) (payload_in bytes)
spelled bytes fits form padded digest =
    let head = head_is bytes (omega (arith, padded.0)) fits form in
    let count : length (payload_in bytes) ≡ used_in bytes =
    length-take-le (used_in bytes) (drop 56 bytes) (omega (arith, length-drop 56 bytes, padded.0)) in
    in_parts bytes
    ∙ ap (λ (t : List ℕ). take 24 bytes ++ t ++ drop 56 bytes) digest
    ∙ ap (λ (t : List ℕ). with_digest t (drop 56 bytes)) head
    ∙ block_is (kind_in bytes) (units_in bytes) (length bytes) (volid_in bytes) (number_in bytes) (used_in bytes) (payload_in bytes) (drop 56 bytes) count
    (padding_is 56 (used_in bytes) (length bytes - 56) bytes padded.1)
