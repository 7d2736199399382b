-- An entry that is read behind its gate, or that isn't there.
use Rattle.std.proofs.Common.{◌≡◌, ◌≢◌, ℕ, ◌+◌, ◌<◌, ◌≤◌, ◌^◌, List, [], ◌++◌, length, take, drop, get_or, refl, sym, ap, ◌∙◌, append_assoc, arith, inl, inr}
use Rattle.std.proofs.lemmas.List.{length-append, take_at, drop_at, length-take, length-take-le, length-drop, get_or-take, get_or-drop, get_or_past, take_all}
use Rattle.std.proofs.lemmas.Bool.{cases_lt}
use Rattle.std.proofs.lemmas.Nat.{be_bytes_4, be_bytes_8}
use Rattle.std.proofs.Math.Seq.{take-add}
use Rattle.sha2.specs.Sha256.{sha256}
use Rattle.sha2.proofs.Facts256.{length-sha256}
use Rattle.byteorder.specs.Endian.{big_bytes, big_number}
use Rattle.byteorder.specs.Numbers.{big_number-reads_back, big_from-lt}
use Rattle.cat_journal.specs.Layout.{entry_fields, entry_text, IsEntry}
use Rattle.cat_journal.specs.Fields.{entry_number_in, entry_size_in}
use Rattle.cat_journal.specs.Reads.{HasFields, SpellsFields, IsFirst, NoEntry}
use Rattle.cat_journal.proofs.Spelling.{length-entry_text}

-- ---- bytes

abbrev pub IsBytes : List ℕ → Type 0
IsBytes bytes = (i : ℕ) → get_or bytes i 0 < 256

pub IsBytes-drop : (n : ℕ) (bytes : List ℕ) → IsBytes bytes → IsBytes (drop n bytes)
IsBytes-drop n bytes h i = rw get_or-drop (h (n + i))

pub IsBytes-take : (n : ℕ) (bytes : List ℕ) → IsBytes bytes → IsBytes (take n bytes)
IsBytes-take n bytes h i =
    elim (cases_lt i n) [
      | inl lt ↦ rw (get_or-take n bytes i 0 lt) (h i)
      | inr le ↦ rw (get_or_past (take n bytes) i 0 (omega (arith, length-take n bytes))) (omega arith)
    ]

pub bytes_of_4 : (bytes : List ℕ) → 4 ≤ length bytes → IsBytes bytes → big_bytes 4 (big_number 4 bytes) ≡ take 4 bytes
bytes_of_4 bytes long fits =
    be_bytes_4 (take 4 bytes) (big_number 4 bytes) (length-take-le 4 bytes long) (IsBytes-take 4 bytes fits)
    (omega (arith, get_or-take 4 bytes 0 0 (omega arith), get_or-take 4 bytes 1 0 (omega arith), get_or-take 4 bytes 2 0 (omega arith), get_or-take 4 bytes 3 0 (omega arith)))

pub bytes_of_8 : (bytes : List ℕ) → 8 ≤ length bytes → IsBytes bytes → big_bytes 8 (big_number 8 bytes) ≡ take 8 bytes
bytes_of_8 bytes long fits =
    be_bytes_8 (take 8 bytes) (big_number 8 bytes) (length-take-le 8 bytes long) (IsBytes-take 8 bytes fits)
    (omega (
      arith,
      get_or-take 8 bytes 0 0 (omega arith),
      get_or-take 8 bytes 1 0 (omega arith),
      get_or-take 8 bytes 2 0 (omega arith),
      get_or-take 8 bytes 3 0 (omega arith),
      get_or-take 8 bytes 4 0 (omega arith),
      get_or-take 8 bytes 5 0 (omega arith),
      get_or-take 8 bytes 6 0 (omega arith),
      get_or-take 8 bytes 7 0 (omega arith),
    ))

-- two fronts of one length
pub same_split : (a b c d : List ℕ) (n : ℕ) → a ++ b ≡ c ++ d → length a ≡ n → length c ≡ n → (a ≡ c) × (b ≡ d)
same_split a b c d n same one other = (
  sym (take_at a b n one) ∙ ap (take n) same ∙ take_at c d n other,
  sym (drop_at a b n one) ∙ ap (drop n) same ∙ drop_at c d n other,
)

-- ---- what stands where an entry does

abbrev entry_head : ℕ → List ℕ → List ℕ
entry_head number payload = big_bytes 8 number ++ big_bytes 4 (length payload)

-- what was read, where there is an entry with these bytes
record Parts (number : ℕ) (fields mid payload more : List ℕ) : Type 0 where
  fields_are : fields ≡ entry_head number payload
  behind : mid ≡ payload ++ (sha256 (entry_fields number payload) ++ more)
  number_read : entry_number_in fields ≡ number
  size_read : entry_size_in fields ≡ length payload

number_in_head : (number : ℕ) (payload : List ℕ) → number < 2 ^ 64 → entry_number_in (entry_head number payload) ≡ number
number_in_head number payload fits = big_number-reads_back 8 number (big_bytes 4 (length payload)) fits

size_in_head : (number : ℕ) (payload : List ℕ) → length payload < 2 ^ 32 → entry_size_in (entry_head number payload) ≡ length payload
size_in_head number payload fits = big_number-reads_back 4 (length payload) [] fits

parts_of : (number : ℕ) (rest fields mid payload more : List ℕ) → length fields ≡ 12 → rest ≡ fields ++ mid → IsEntry number payload
    → rest ≡ entry_text number payload ++ more → Parts number fields mid payload more
unfolding entry_text
parts_of number rest fields mid payload more sized split is text =
    let digest = sha256 (entry_fields number payload) in
    let head = entry_head number payload in
    let grouped : (head ++ payload ++ digest) ++ more ≡ head ++ (payload ++ (digest ++ more)) =
    append_assoc (head ++ payload) digest more ∙ append_assoc head payload (digest ++ more) in
    let same = same_split fields mid head (payload ++ (digest ++ more)) 12 (sym split ∙ text ∙ grouped) sized refl in
    record {
      fields_are = same.0;
      behind = same.1;
      number_read = ap entry_number_in same.0 ∙ number_in_head number payload is.counted;
      size_read = ap entry_size_in same.0 ∙ size_in_head number payload is.short;
    }

-- ---- no entry

pub no_fields : (number : ℕ) (rest : List ℕ) → length rest < 12 → NoEntry number rest
no_fields number rest short payload more is text =
    absurd (omega (arith, short, ap length text, length-append (entry_text number payload) more, length-entry_text number payload))

pub no_such : (number room : ℕ) (rest fields mid : List ℕ) → length fields ≡ 12 → rest ≡ fields ++ mid → room ≡ 1 + length rest
    → ¬ HasFields fields number room → NoEntry number rest
no_such number room rest fields mid sized split left wrong payload more is text =
    let parts = parts_of number rest fields mid payload more sized split is text in
    wrong (parts.number_read, omega (arith, parts.size_read, left, ap length text, length-append (entry_text number payload) more, length-entry_text number payload))

pub no_bytes : (number size : ℕ) (rest fields mid : List ℕ) → length fields ≡ 12 → rest ≡ fields ++ mid → size ≡ entry_size_in fields
    → length mid < size → NoEntry number rest
no_bytes number size rest fields mid sized split is-size short payload more is text =
    let parts = parts_of number rest fields mid payload more sized split is text in
    absurd (omega (arith, short, is-size, parts.size_read, ap length parts.behind, length-append payload (sha256 (entry_fields number payload) ++ more)))

-- the bytes are those of the entry that stands there
same_bytes : (number : ℕ) (fields mid bytes tail payload more : List ℕ) → length bytes ≡ entry_size_in fields → mid ≡ bytes ++ tail
    → Parts number fields mid payload more → (bytes ≡ payload) × (tail ≡ sha256 (entry_fields number payload) ++ more)
same_bytes number fields mid bytes tail payload more sized split parts =
    same_split bytes tail payload (sha256 (entry_fields number payload) ++ more) (length payload) (sym split ∙ parts.behind) (sized ∙ parts.size_read) refl

pub no_digest : (number size : ℕ) (rest fields mid bytes tail : List ℕ) → length fields ≡ 12 → rest ≡ fields ++ mid → size ≡ entry_size_in fields
    → length bytes ≡ size → mid ≡ bytes ++ tail → length tail < 32 → NoEntry number rest
no_digest number size rest fields mid bytes tail sized split is-size long goes short payload more is text =
    let parts = parts_of number rest fields mid payload more sized split is text in
    let same = same_bytes number fields mid bytes tail payload more (long ∙ is-size) goes parts in
    absurd (omega (arith, short, ap length same.1, length-append (sha256 (entry_fields number payload)) more, length-sha256 (entry_fields number payload)))

pub wrong_digest : (number size : ℕ) (rest fields mid bytes tail digest after : List ℕ) → length fields ≡ 12 → rest ≡ fields ++ mid → size ≡ entry_size_in fields
    → length bytes ≡ size → mid ≡ bytes ++ tail → length digest ≡ 32 → tail ≡ digest ++ after → sha256 (fields ++ bytes) ≢ digest → NoEntry number rest
wrong_digest number size rest fields mid bytes tail digest after sized split is-size long goes digest-sized ends wrong payload more is text =
    let parts = parts_of number rest fields mid payload more sized split is text in
    let same = same_bytes number fields mid bytes tail payload more (long ∙ is-size) goes parts in
    let digests = same_split digest after (sha256 (entry_fields number payload)) more 32 (sym ends ∙ same.1) digest-sized (length-sha256 (entry_fields number payload)) in
    wrong (ap (λ (t : List ℕ). sha256 (t ++ bytes)) parts.fields_are ∙ ap (λ (t : List ℕ). sha256 (entry_head number payload ++ t)) same.0 ∙ sym digests.0)

-- ---- an entry

fields_spelled : (fields : List ℕ) → length fields ≡ 12 → IsBytes fields
    → fields ≡ big_bytes 8 (entry_number_in fields) ++ big_bytes 4 (entry_size_in fields)
fields_spelled fields sized fits =
    let one = bytes_of_8 fields (omega (arith, sized)) fits in
    let two = bytes_of_4 (drop 8 fields) (omega (arith, sized, length-drop 8 fields)) (IsBytes-drop 8 fields fits) in
    sym (take_all 12 fields (omega (arith, sized))) ∙ take-add 8 4 fields
    ∙ ap (λ (t : List ℕ). t ++ take 4 (drop 8 fields)) (sym one) ∙ ap (λ (t : List ℕ). big_bytes 8 (entry_number_in fields) ++ t) (sym two)

pub spells_fields : (fields : List ℕ) (number : ℕ) → length fields ≡ 12 → IsBytes fields → entry_number_in fields ≡ number
    → SpellsFields fields number (entry_size_in fields)
spells_fields fields number sized fits is = record {
  text = fields_spelled fields sized fits ∙ ap (λ (n : ℕ). big_bytes 8 n ++ big_bytes 4 (entry_size_in fields)) is;
  counted = omega (arith, is, big_from-lt 0 8 fields fits);
  short = big_from-lt 0 4 (drop 8 fields) (IsBytes-drop 8 fields fits);
}

pub is_first : (number size : ℕ) (rest fields mid bytes tail digest after : List ℕ) → SpellsFields fields number size
    → rest ≡ fields ++ mid → length bytes ≡ size → mid ≡ bytes ++ tail
    → tail ≡ digest ++ after → sha256 (fields ++ bytes) ≡ digest → IsFirst number rest after bytes
unfolding entry_text
is_first number size rest fields mid bytes tail digest after spells split long goes ends right =
    let head : fields ≡ entry_head number bytes = spells.text ∙ ap (λ (n : ℕ). big_bytes 8 number ++ big_bytes 4 n) (sym long) in
    let whole : fields ++ bytes ≡ entry_fields number bytes = ap (λ (t : List ℕ). t ++ bytes) head in (
      record { counted = spells.counted; short = omega (arith, long, spells.short) },
      split ∙ ap (λ (t : List ℕ). fields ++ t) (goes ∙ ap (λ (t : List ℕ). bytes ++ t) ends)
          ∙ sym (append_assoc fields bytes (digest ++ after)) ∙ sym (append_assoc (fields ++ bytes) digest after)
          ∙ ap (λ (t : List ℕ). fields ++ bytes ++ t ++ after) (sym right) ∙ ap (λ (t : List ℕ). t ++ sha256 t ++ after) whole,
    )
