-- Any two files have a meaning: whether a front and an entry stand in bytes is decided by what is read there.
use Rattle.std.proofs.Common.{◌≡◌, ◌⊎◌, ℕ, zero, suc, ◌+◌, ◌<◌, ◌≤◌, ◌^◌, List, [], ◌∷◌, ◌++◌, length, take, drop, get_or, refl, sym, ap, subst, ◌∙◌, append_assoc, arith, inl, inr}
use Rattle.std.proofs.lemmas.List.{length-append}
use Rattle.std.proofs.lemmas.Bool.{cases_lt}
use Rattle.std.proofs.Math.Decide.{ℕ_discrete, dec_le}
use Rattle.room_disk.specs.Disk.{Image}
use Rattle.cat_journal.specs.Fields.{form_in, generation_in, number_in, size_in, head_in, entry_size_in}
use Rattle.cat_journal.specs.Layout.{Head, HasForm, front_text, entry_text, IsEntry}
use Rattle.cat_journal.specs.Contents.{contents_of, contents_text, gate_of, number_after, last_of, entries_text, AreEntries, AreContents, IsBroken}
use Rattle.cat_journal.specs.Meaning.{Front, Shut, Open, Bad, HasFront, Begins, Meaning, Unopened, Damaged, Stands, CurrentMeans, FrontsMean, Means}
use Rattle.cat_journal.proofs.Spelled.{reads_front, reads_entry}
use Rattle.cat_journal.proofs.OneMeaning.{equal_heads, Ends}

-- ---- deciding

both : {P Q : Type 0} → Dec P → Dec Q → Dec (P × Q)
both (yes p) (yes q) = yes (p, q)
both (yes p) (no q) = no (λ pair. q pair.1)
both (no p) q = no (λ pair. p pair.0)

either : {P Q : Type 0} → Dec P → Dec Q → Dec (P ⊎ Q)
either (yes p) q = yes (inl p)
either (no p) (yes q) = yes (inr q)
either (no p) (no q) = no (λ one. elim one [ inl is ↦ p is | inr is ↦ q is ])

same_head : (x y : ℕ) (xs ys : List ℕ) → x ∷ xs ≡ y ∷ ys → x ≡ y
same_head x y xs ys same = cc same

same_tail : (x y : ℕ) (xs ys : List ℕ) → x ∷ xs ≡ y ∷ ys → xs ≡ ys
same_tail x y xs ys same = cc same

same_cons : (x y : ℕ) (xs ys : List ℕ) → Dec (x ≡ y) → Dec (xs ≡ ys) → Dec (x ∷ xs ≡ y ∷ ys)
same_cons x y xs ys (yes p) (yes q) = yes (ap (λ h. h ∷ xs) p ∙ ap (λ t. y ∷ t) q)
same_cons x y xs ys (yes p) (no q) = no (λ same. q (same_tail x y xs ys same))
same_cons x y xs ys (no p) q = no (λ same. p (same_head x y xs ys same))

same_list : (xs ys : List ℕ) → Dec (xs ≡ ys)
same_list [] [] = yes refl
same_list [] (y ∷ ys) = no (λ same. absurd (omega (arith, ap length same)))
same_list (x ∷ xs) [] = no (λ same. absurd (omega (arith, ap length same)))
same_list (x ∷ xs) (y ∷ ys) = same_cons x y xs ys (ℕ_discrete x y) (same_list xs ys)

-- ---- fronts

-- the front that is read at the head of the bytes
abbrev snapshot_in : List ℕ → List ℕ
snapshot_in bytes = take (size_in bytes) (drop 64 bytes)

abbrev IsThere : List ℕ → Type 0
IsThere bytes = (HasForm (form_in bytes) (generation_in bytes) × ((1 ≤ generation_in bytes) × (number_in bytes < 2 ^ 64)))
    × ((length (snapshot_in bytes) < 2 ^ 64)
    × (bytes ≡ (0x4A ∷ front_text (head_in bytes) (snapshot_in bytes)) ++ drop (64 + length (snapshot_in bytes)) bytes))

is_there : (bytes : List ℕ) → Dec (IsThere bytes)
is_there bytes =
    both (both (either (both (ℕ_discrete (form_in bytes) 1) (dec_le (suc (generation_in bytes)) (2 ^ 63)))
    (both (ℕ_discrete (form_in bytes) 2) (dec_le (suc (generation_in bytes)) (2 ^ 64))))
    (both (dec_le 1 (generation_in bytes)) (dec_le (suc (number_in bytes)) (2 ^ 64))))
    (both (dec_le (suc (length (snapshot_in bytes))) (2 ^ 64))
    (same_list bytes ((0x4A ∷ front_text (head_in bytes) (snapshot_in bytes)) ++ drop (64 + length (snapshot_in bytes)) bytes)))

there_of : (bytes : List ℕ) (head : Head) (snapshot : List ℕ) → HasFront bytes head snapshot → IsThere bytes
there_of bytes head snapshot has =
    let reads = reads_front bytes head snapshot has.rest has.allowed has.text in
    let heads : head ≡ head_in bytes = equal_heads head (head_in bytes) (sym reads.form) (sym reads.generation) (sym reads.number) in
    let snapshots : snapshot ≡ snapshot_in bytes = sym (ap (λ (n : ℕ). take n (drop 64 bytes)) reads.size ∙ reads.snapshot_read) in
    let P : Head → List ℕ → Type 0 = λ h s. (HasForm h.form h.generation × ((1 ≤ h.generation) × (h.number < 2 ^ 64)))
    × ((length s < 2 ^ 64) × (bytes ≡ (0x4A ∷ front_text h s) ++ drop (64 + length s) bytes)) in
    subst (P (head_in bytes)) snapshots (subst (λ h. P h snapshot) heads (
      (has.allowed.fields.form, (has.allowed.fields.first, has.allowed.fields.number)),
      (
        has.allowed.size,
        has.text ∙ ap (λ (t : List ℕ). (0x4A ∷ front_text head snapshot) ++ t) (sym reads.behind),
      ),
    ))

front_of : (bytes : List ℕ) → Dec (get_or bytes 0 0 ≡ 0x4A) → Dec (IsThere bytes) → (front : Front) × Begins bytes front
front_of bytes (no shut) there = (Shut, shut)
front_of bytes (yes opens) (no none) = (Bad, (opens, λ head snapshot has. none (there_of bytes head snapshot has)))
front_of bytes (yes opens) (yes there) = (
  Open (head_in bytes) (snapshot_in bytes),
  record {
    allowed = record {
      fields = record { form = there.0.0; first = there.0.1.0; number = there.0.1.1 };
      size = there.1.0;
    };
    rest = drop (64 + length (snapshot_in bytes)) bytes;
    text = there.1.1;
  },
)

pub every_front : (bytes : List ℕ) → (front : Front) × Begins bytes front
every_front bytes = front_of bytes (ℕ_discrete (get_or bytes 0 0) 0x4A) (is_there bytes)

-- ---- entries

-- an entry with this number stands behind an open gate
abbrev IsNext : ℕ → List ℕ → Type 0
IsNext number bytes = (payload : List ℕ) × ((rest : List ℕ) × IsEntry number payload × (bytes ≡ entry_text number payload ++ rest))

abbrev payload_in : List ℕ → List ℕ
payload_in bytes = take (entry_size_in bytes) (drop 12 bytes)

abbrev IsReadNext : ℕ → List ℕ → Type 0
IsReadNext number bytes = ((number < 2 ^ 64) × (length (payload_in bytes) < 2 ^ 32))
    × (bytes ≡ entry_text number (payload_in bytes) ++ drop (44 + length (payload_in bytes)) bytes)

read_next : (number : ℕ) (bytes : List ℕ) → IsNext number bytes → IsReadNext number bytes
read_next number bytes next =
    let payload = next.0 in
    let reads = reads_entry bytes number payload next.1.0 next.1.1 next.1.2 in
    let same : payload ≡ payload_in bytes = sym (ap (λ (n : ℕ). take n (drop 12 bytes)) reads.size ∙ reads.payload_read) in
    let P : List ℕ → Type 0 = λ p. ((number < 2 ^ 64) × (length p < 2 ^ 32)) × (bytes ≡ entry_text number p ++ drop (44 + length p) bytes) in
    subst P same ((next.1.1.counted, next.1.1.short), next.1.2 ∙ ap (λ (t : List ℕ). entry_text number payload ++ t) (sym reads.behind))

next_of : (number : ℕ) (bytes : List ℕ) → Dec (IsReadNext number bytes) → Dec (IsNext number bytes)
next_of number bytes (yes is) = yes (payload_in bytes, (drop (44 + length (payload_in bytes)) bytes, record { counted = is.0.0; short = is.0.1 }, is.1))
next_of number bytes (no not) = no (λ next. not (read_next number bytes next))

is_next : (number : ℕ) (bytes : List ℕ) → Dec (IsNext number bytes)
is_next number bytes = next_of number bytes
    (both (both (dec_le (suc number) (2 ^ 64)) (dec_le (suc (length (payload_in bytes))) (2 ^ 32)))
    (same_list bytes (entry_text number (payload_in bytes) ++ drop (44 + length (payload_in bytes)) bytes)))

-- the entries that bytes begin with, and where they end
pub record HasEntries (form number : ℕ) (bytes : List ℕ) : Type 0 where
  pub payloads : List (List ℕ)
  pub rest : List ℕ
  pub are : AreEntries form number payloads
  pub text : bytes ≡ entries_text form number payloads ++ rest
  pub ends : Ends (last_of form number payloads + 1) rest

no_entries : (form number : ℕ) (bytes : List ℕ) → Ends (number + 1) bytes → HasEntries form number bytes
no_entries form number bytes ends = record { payloads = []; rest = bytes; are = tt; text = refl; ends = ends }

one_more : (form number : ℕ) (payload rest : List ℕ) → IsEntry (number + 1) payload → HasEntries form (number_after form number payload) rest
    → HasEntries form number (0x45 ∷ (entry_text (number + 1) payload ++ rest))
one_more form number payload rest is has =
    let after = number_after form number payload in
    let this = 0x45 ∷ entry_text (number + 1) payload in
    record {
      payloads = payload ∷ has.payloads;
      rest = has.rest;
      are = (is, has.are);
      text = ap (λ (t : List ℕ). this ++ t) has.text ∙ sym (append_assoc this (entries_text form after has.payloads) has.rest);
      ends = has.ends;
    }

broken_at : (number gate : ℕ) (bytes : List ℕ) → gate ≡ 0x45 → ¬ IsNext number bytes → IsBroken number (gate ∷ bytes)
broken_at number gate bytes opens none = (opens, λ payload more is text. none (payload, (more, is, text)))

entries_at : (fuel form number gate : ℕ) (bytes : List ℕ) → length bytes ≤ fuel
    → ((late : ℕ) (behind : List ℕ) → length behind ≤ fuel → HasEntries form late behind)
    → Dec (gate ≡ 0x45) → Dec (IsNext (number + 1) bytes) → HasEntries form number (gate ∷ bytes)
entries_at fuel form number gate bytes fits onward (no shut) next = no_entries form number (gate ∷ bytes) (inl shut)
entries_at fuel form number gate bytes fits onward (yes opens) (no none) =
    no_entries form number (gate ∷ bytes) (inr (broken_at (number + 1) gate bytes opens none))
entries_at fuel form number gate bytes fits onward (yes opens) (yes next) =
    let payload = next.0 in
    let rest = next.1.0 in
    let shorter : length rest ≤ fuel = omega (arith, fits, ap length next.1.2, length-append (entry_text (number + 1) payload) rest) in
    let whole : 0x45 ∷ (entry_text (number + 1) payload ++ rest) ≡ gate ∷ bytes =
    ap (λ (t : List ℕ). 0x45 ∷ t) (sym next.1.2) ∙ ap (λ (n : ℕ). n ∷ bytes) (sym opens) in
    subst (HasEntries form number) whole (one_more form number payload rest next.1.1 (onward (number_after form number payload) rest shorter))

-- each byte is an entry's, or behind all of them
entries_in : (fuel form number : ℕ) (bytes : List ℕ) → length bytes ≤ fuel → HasEntries form number bytes
entries_in fuel form number [] fits = no_entries form number [] (inr tt)
entries_in zero form number (gate ∷ bytes) fits = absurd (omega (arith, fits))
entries_in (suc fuel) form number (gate ∷ bytes) fits =
    entries_at fuel form number gate bytes (omega (arith, fits)) (λ late behind fit. entries_in fuel form late behind fit)
    (ℕ_discrete gate 0x45) (is_next (number + 1) bytes)

-- ---- the current file

current_of : (file : ℕ) (bytes : List ℕ) (head : Head) (snapshot : List ℕ) (has : HasFront bytes head snapshot)
    (entries : HasEntries head.form head.number has.rest) → (meaning : Meaning) × CurrentMeans file bytes head snapshot meaning
current_of file bytes head snapshot has entries =
    let contents = contents_of head snapshot entries.payloads in
    let front = 0x4A ∷ front_text head snapshot in
    let text : bytes ≡ contents_text contents ++ entries.rest =
    has.text ∙ ap (λ (t : List ℕ). front ++ t) entries.text ∙ sym (append_assoc front (entries_text head.form head.number entries.payloads) entries.rest) in
    let allowed : AreContents contents = record { front = has.allowed; entries = entries.are } in
    elim entries.ends [
      | inl closed ↦ (Stands file contents, (refl, refl, refl, record { allowed = allowed; rest = entries.rest; text = text; closed = closed }))
      | inr broken ↦ (
        Damaged file (gate_of contents),
        (
          refl,
          (
            entries.payloads,
            record { allowed = allowed; rest = entries.rest; text = text; broken = broken },
            refl,
          ),
        ),
      )
    ]

every_current : (file : ℕ) (bytes : List ℕ) (head : Head) (snapshot : List ℕ) → HasFront bytes head snapshot
    → (meaning : Meaning) × CurrentMeans file bytes head snapshot meaning
every_current file bytes head snapshot has =
    current_of file bytes head snapshot has (entries_in (length has.rest) head.form head.number has.rest (omega arith))

-- ---- both files

greater : (files : Image) (head other : Head) (snapshot late : List ℕ) → HasFront (files 0) head snapshot → HasFront (files 1) other late
    → (head.generation < other.generation) ⊎ (other.generation ≤ head.generation)
    → (meaning : Meaning) × FrontsMean files (Open head snapshot) (Open other late) meaning
greater files head other snapshot late has also (inl less) =
    let current = every_current 1 (files 1) other late also in (current.0, inl (less, current.1))
greater files head other snapshot late has also (inr more) =
    let current = every_current 0 (files 0) head snapshot has in (current.0, inr (more, current.1))

of_fronts : (files : Image) (first second : Front) → Begins (files 0) first → Begins (files 1) second
    → (meaning : Meaning) × FrontsMean files first second meaning
of_fronts files Bad second is also = (Damaged 0 0, refl)
of_fronts files Shut Bad is also = (Damaged 1 0, refl)
of_fronts files (Open head snapshot) Bad is also = (Damaged 1 0, refl)
of_fronts files Shut Shut is also = (Unopened, refl)
of_fronts files (Open head snapshot) Shut is also = every_current 0 (files 0) head snapshot is
of_fronts files Shut (Open head snapshot) is also = every_current 1 (files 1) head snapshot also
of_fronts files (Open head snapshot) (Open other late) is also =
    greater files head other snapshot late is also (cases_lt head.generation other.generation)

pub every_meaning : (files : Image) → (meaning : Meaning) × Means files meaning
every_meaning files =
    let first = every_front (files 0) in
    let second = every_front (files 1) in
    let meaning = of_fronts files first.0 second.0 first.1 second.1 in
    (meaning.0, record { first = first.0; second = second.0; begins = first.1; also = second.1; is = meaning.1 })
