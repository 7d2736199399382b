-- What the head and the snapshot that were read say of a file's front.
use Rattle.std.proofs.Common.{◌≡◌, ℕ, ◌+◌, ◌-◌, ◌≤◌, List, [], ◌∷◌, ◌++◌, length, take, drop, replicate, get_or, refl, sym, ap, subst, ◌∙◌, append_assoc, arith}
use Rattle.std.proofs.lemmas.List.{length-take, length-drop, take-append-drop, drop-drop, drop-take, take-take, get_or-take, take_all}
use Rattle.std.proofs.Math.Seq.{take-add}
use Rattle.sha2.specs.Sha256.{sha256}
use Rattle.byteorder.specs.Endian.{big_bytes, big_number}
use Rattle.byteorder.specs.Numbers.{big_from-take, big_from-lt}
use Rattle.cat_journal.specs.Layout.{Head, HasForm, head_text, front_text}
use Rattle.cat_journal.specs.Meaning.{HasFront, Begins, Shut, Bad}
use Rattle.cat_journal.specs.Fields.{form_in, generation_in, number_in, size_in}
use Rattle.cat_journal.specs.Heads.{IsHeadText, file_head, head_of, FindsHead, IsFileHead, HasSnapshot}
use Rattle.cat_journal.specs.declared.front.FileHead.{FileHead}
use Rattle.cat_journal.specs.declared.front.FrontRead.TheVariants as read
use Rattle.cat_journal.proofs.Spelled.{reads_front}
use Rattle.cat_journal.proofs.Finding.{IsBytes, IsBytes-drop, bytes_of_8}

-- ---- the first bytes

number_at : (place : ℕ) (bytes : List ℕ) → place + 8 ≤ 64 → big_number 8 (drop place (take 64 bytes)) ≡ big_number 8 (drop place bytes)
number_at place bytes inside =
    let split : 64 ≡ place + (64 - place) = omega (arith, inside) in
    ap (λ (n : ℕ). big_number 8 (drop place (take n bytes))) split
    ∙ ap (big_number 8) (drop-take place (64 - place) bytes)
    ∙ big_from-take 0 8 (64 - place) (drop place bytes) (omega (arith, inside))

part_at : (place size : ℕ) (bytes : List ℕ) → place + size ≤ 64 → take size (drop place (take 64 bytes)) ≡ take size (drop place bytes)
part_at place size bytes inside =
    let split : 64 ≡ place + (64 - place) = omega (arith, inside) in
    ap (λ (n : ℕ). take size (drop place (take n bytes))) split
    ∙ ap (take size) (drop-take place (64 - place) bytes)
    ∙ take-take size (64 - place) (drop place bytes) (omega (arith, inside))

-- a front makes a head that is allowed
head_text_of : (bytes : List ℕ) (head : Head) (snapshot : List ℕ) → HasFront bytes head snapshot → IsHeadText (take 64 bytes) (length bytes)
head_text_of bytes head snapshot has =
    let reads = reads_front bytes head snapshot has.rest has.allowed has.text in
    let form : form_in (take 64 bytes) ≡ head.form = get_or-take 64 bytes 1 0 (omega arith) ∙ reads.form in
    let generation : generation_in (take 64 bytes) ≡ head.generation = number_at 8 bytes (omega arith) ∙ reads.generation in
    let size : size_in (take 64 bytes) ≡ length snapshot = number_at 24 bytes (omega arith) ∙ reads.size in
    let P : ℕ → ℕ → Type 0 = HasForm in
    record {
      whole = omega (arith, length-take 64 bytes, reads.long);
      form = subst (λ (f : ℕ). P f (generation_in (take 64 bytes))) (sym form) (subst (P head.form) (sym generation) has.allowed.fields.form);
      zeros = part_at 2 6 bytes (omega arith) ∙ reads.zeros;
      first = omega (arith, generation, has.allowed.fields.first);
      size = omega (arith, size, reads.long);
    }

-- ---- the front

pub begins_shut : (bytes : List ℕ) → FindsHead (take 64 bytes) (length bytes) read.Shut → Begins bytes Shut
begins_shut bytes found opens = found (get_or-take 64 bytes 0 0 (omega arith) ∙ opens)

gate_there : (bytes : List ℕ) → get_or (take 64 bytes) 0 0 ≡ 0x4A → get_or bytes 0 0 ≡ 0x4A
gate_there bytes found = sym (get_or-take 64 bytes 0 0 (omega arith)) ∙ found

pub begins_bad : (bytes : List ℕ) → FindsHead (take 64 bytes) (length bytes) read.Bad → Begins bytes Bad
begins_bad bytes found = (gate_there bytes found.0, λ head snapshot has. found.1 (head_text_of bytes head snapshot has))

-- the snapshot of a front is the one behind its head
snapshot_of : (bytes : List ℕ) (head : FileHead) (other : Head) (snapshot : List ℕ) → FindsHead (take 64 bytes) (length bytes) (read.Open head)
    → HasFront bytes other snapshot → HasSnapshot bytes head (take head.size (drop 64 bytes))
snapshot_of bytes head other snapshot found has =
    let reads = reads_front bytes other snapshot has.rest has.allowed has.text in
    let made = found.2 in
    let size : head.size ≡ length snapshot = ap (λ (h : FileHead). h.size) made ∙ number_at 24 bytes (omega arith) ∙ reads.size in
    let fields : head.fields ≡ head_text other (length snapshot) = ap (λ (h : FileHead). h.fields) made ∙ part_at 1 31 bytes (omega arith) ∙ reads.fields in
    let digest : head.digest ≡ sha256 (head_text other (length snapshot) ++ snapshot) = ap (λ (h : FileHead). h.digest) made ∙ part_at 32 32 bytes (omega arith) ∙ reads.digest in
    let behind : take head.size (drop 64 bytes) ≡ snapshot = ap (λ (n : ℕ). take n (drop 64 bytes)) size ∙ reads.snapshot_read in (
      omega (arith, size, reads.long),
      refl,
      ap (λ (t : List ℕ). sha256 (head.fields ++ t)) behind ∙ ap (λ (t : List ℕ). sha256 (t ++ snapshot)) fields ∙ sym digest,
    )

pub begins_broken : (bytes : List ℕ) (head : FileHead) → FindsHead (take 64 bytes) (length bytes) (read.Open head)
    → ((snapshot : List ℕ) → ¬ HasSnapshot bytes head snapshot) → Begins bytes Bad
begins_broken bytes head found none = (
  gate_there bytes found.0,
  λ other snapshot has. none (take head.size (drop 64 bytes)) (snapshot_of bytes head other snapshot found has),
)

-- the first 64 bytes, taken apart
first_parts : (text : List ℕ) → length text ≡ 64 → get_or text 0 0 ≡ 0x4A → text ≡ 0x4A ∷ (take 31 (drop 1 text) ++ take 32 (drop 32 text))
first_parts [] whole gate = absurd (omega (arith, whole))
first_parts (first ∷ rest) whole gate =
    ap (λ (n : ℕ). n ∷ rest) gate
    ∙ ap (λ (t : List ℕ). 0x4A ∷ t) (sym (take_all 63 rest (omega (arith, whole))) ∙ take-add 31 32 rest)

pub has_front : (bytes : List ℕ) (head : FileHead) (snapshot : List ℕ) → FindsHead (take 64 bytes) (length bytes) (read.Open head) → IsFileHead head
    → HasSnapshot bytes head snapshot → length snapshot ≡ head.size → HasFront bytes (head_of head) snapshot
unfolding front_text
has_front bytes head snapshot found is has sized =
    let text = take 64 bytes in
    let fields = head.fields in
    let digest = head.digest in
    let rest = drop head.size (drop 64 bytes) in
    let parts : text ≡ 0x4A ∷ (fields ++ digest) =
    first_parts text found.1.whole found.0
    ∙ ap (λ (t : List ℕ). 0x4A ∷ (t ++ take 32 (drop 32 text))) (sym (ap (λ (h : FileHead). h.fields) found.2))
    ∙ ap (λ (t : List ℕ). 0x4A ∷ (fields ++ t)) (sym (ap (λ (h : FileHead). h.digest) found.2)) in
    let spelled : fields ≡ head_text (head_of head) (length snapshot) = is.text ∙ ap (head_text (head_of head)) (sym sized) in
    let digests : digest ≡ sha256 (head_text (head_of head) (length snapshot) ++ snapshot) = sym has.2 ∙ ap (λ (t : List ℕ). sha256 (t ++ snapshot)) spelled in
    record {
      allowed = record { fields = record { form = is.form; first = is.first; number = is.number }; size = omega (arith, sized, is.short) };
      rest = rest;
      text = sym (take-append-drop 64 bytes) ∙ ap (λ (t : List ℕ). t ++ drop 64 bytes) parts
          ∙ ap (λ (t : List ℕ). 0x4A ∷ (fields ++ digest) ++ t) (sym (take-append-drop head.size (drop 64 bytes)) ∙ ap (λ (t : List ℕ). t ++ rest) (sym has.1))
          ∙ sym (append_assoc (0x4A ∷ (fields ++ digest)) snapshot rest)
          ∙ ap (λ (t : List ℕ). (0x4A ∷ (fields ++ t ++ snapshot)) ++ rest) digests
          ∙ ap (λ (t : List ℕ). (0x4A ∷ (t ++ sha256 (head_text (head_of head) (length snapshot) ++ snapshot) ++ snapshot)) ++ rest) spelled;
    }

-- ---- the fields of a head that was read

form_cell : (text : List ℕ) → 2 ≤ length text → take 1 (drop 1 text) ≡ form_in text ∷ []
form_cell [] long = absurd (omega arith)
form_cell (a ∷ []) long = absurd (omega arith)
form_cell (a ∷ b ∷ rest) long = refl

fields_spelled : (text : List ℕ) → length text ≡ 64 → take 6 (drop 2 text) ≡ replicate 6 0 → IsBytes text
    → take 31 (drop 1 text) ≡ head_text (record { form = form_in text; generation = generation_in text; number = number_in text }) (size_in text)
fields_spelled text whole zeros fits =
    let generation = bytes_of_8 (drop 8 text) (omega (arith, whole, length-drop 8 text)) (IsBytes-drop 8 text fits) in
    let number = bytes_of_8 (drop 16 text) (omega (arith, whole, length-drop 16 text)) (IsBytes-drop 16 text fits) in
    let size = bytes_of_8 (drop 24 text) (omega (arith, whole, length-drop 24 text)) (IsBytes-drop 24 text fits) in
    take-add 23 8 (drop 1 text) ∙ ap (λ (t : List ℕ). take 23 (drop 1 text) ++ take 8 t) (drop-drop 23 1 text)
    ∙ ap (λ (t : List ℕ). t ++ take 8 (drop 24 text)) (take-add 15 8 (drop 1 text) ∙ ap (λ (t : List ℕ). take 15 (drop 1 text) ++ take 8 t) (drop-drop 15 1 text)
    ∙ ap (λ (t : List ℕ). t ++ take 8 (drop 16 text)) (take-add 7 8 (drop 1 text) ∙ ap (λ (t : List ℕ). take 7 (drop 1 text) ++ take 8 t) (drop-drop 7 1 text)
    ∙ ap (λ (t : List ℕ). t ++ take 8 (drop 8 text)) (take-add 1 6 (drop 1 text) ∙ ap (λ (t : List ℕ). take 1 (drop 1 text) ++ take 6 t) (drop-drop 1 1 text)
    ∙ ap (λ (t : List ℕ). t ++ take 6 (drop 2 text)) (form_cell text (omega (arith, whole))) ∙ ap (λ (t : List ℕ). (form_in text ∷ []) ++ t) zeros)))
    ∙ ap (λ (t : List ℕ). (form_in text ∷ replicate 6 0) ++ t ++ take 8 (drop 16 text) ++ take 8 (drop 24 text)) (sym generation)
    ∙ ap (λ (t : List ℕ). (form_in text ∷ replicate 6 0) ++ big_bytes 8 (generation_in text) ++ t ++ take 8 (drop 24 text)) (sym number)
    ∙ ap (λ (t : List ℕ). (form_in text ∷ replicate 6 0) ++ big_bytes 8 (generation_in text) ++ big_bytes 8 (number_in text) ++ t) (sym size)

pub is_file_head : (text : List ℕ) (end : ℕ) → IsHeadText text end → IsBytes text → IsFileHead (file_head text end)
is_file_head text end is fits = record {
  form = is.form;
  first = is.first;
  number = big_from-lt 0 8 (drop 16 text) (IsBytes-drop 16 text fits);
  short = big_from-lt 0 8 (drop 24 text) (IsBytes-drop 24 text fits);
  size = is.size;
  text = fields_spelled text is.whole is.zeros fits;
}
