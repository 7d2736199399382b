-- One entry more in a file of a journal.
use Rattle.std.proofs.Common.{◌≡◌, ◌≢◌, ◌⊎◌, ℕ, ◌+◌, ◌<◌, List, [], ◌∷◌, ◌++◌, length, take, drop, replicate, ◌-◌, get_or, max, refl, sym, ap, subst, ◌∙◌, append_assoc, arith, inl, inr}
use Rattle.std.proofs.lemmas.Bool.{cases_eq}
use Rattle.std.proofs.lemmas.List.{length-append, append-nil, take_at, drop_at, get_or-append_right, get_or_append_left, take-append-drop, drop-drop, get_or-drop, length-drop, ext_get_or, get_or-take, length-take}
use Rattle.room_disk.specs.Crash.{overlaid, Overlays, GatedTorn}
use Rattle.room_disk.proofs.Overlay.{length-overlaid, overlaid-before, letter_whole}
use Rattle.std.specs.Prelude.{Option, Some, Result}
use Rattle.room_disk.specs.Disk.{DiskView}
use Rattle.room_disk.specs.Writing.{WritesFile}
use Rattle.room_disk.proofs.Writing.{writes_weaker}
use Rattle.cat_journal.specs.declared.current.CurrentFile.{CurrentFile}
use Rattle.cat_journal.specs.Journal.{JournalView, EndAt, IsAt, file_of, AddsEntry, MayAddEntry}
use Rattle.cat_journal.specs.Layout.{IsEntry, front_text, entry_text}
use Rattle.cat_journal.specs.Contents.{Contents, with_payload, contents_text, gate_of, last_number, last_of, number_after, AreEntries, AreContents, IsClosed, Holds, entries_text}
use Rattle.cat_journal.proofs.Spelling.{entries_more, length-entry_text}

-- ---- one entry more

pub entries_are : (form number : ℕ) (payloads : List (List ℕ)) (payload : List ℕ) → AreEntries form number payloads
    → IsEntry (last_of form number payloads + 1) payload → AreEntries form number (payloads ++ payload ∷ [])
entries_are form number [] payload are is = (is, tt)
entries_are form number (first ∷ payloads) payload are is =
    (are.0, entries_are form (number_after form number first) payloads payload are.1 is)

pub contents_more : (contents : Contents) (payload : List ℕ) → contents_text (with_payload contents payload)
    ≡ contents_text contents ++ (0x45 ∷ entry_text (last_number contents + 1) payload)
contents_more contents payload =
    let form = contents.head.form in
    let number = contents.head.number in
    let front = 0x4A ∷ front_text contents.head contents.snapshot in
    let entries = entries_text form number contents.payloads in
    ap (λ (t : List ℕ). front ++ t) (entries_more form number contents.payloads payload)
    ∙ sym (append_assoc front entries (0x45 ∷ entry_text (last_number contents + 1) payload))

pub contents_are : (contents : Contents) (payload : List ℕ) → AreContents contents → IsEntry (last_number contents + 1) payload
    → AreContents (with_payload contents payload)
contents_are contents payload are is = record {
  front = are.front;
  entries = entries_are contents.head.form contents.head.number contents.payloads payload are.entries is;
}

pub gate_more : (contents : Contents) (payload : List ℕ) → gate_of (with_payload contents payload) ≡ gate_of contents + (45 + length payload)
gate_more contents payload =
    ap length (contents_more contents payload)
    ∙ length-append (contents_text contents) (0x45 ∷ entry_text (last_number contents + 1) payload)
    ∙ omega (arith, length-entry_text (last_number contents + 1) payload)

-- ---- a write at the gate

-- a write at the end of a front, over at most what stands behind it
pub overlaid_behind : (front bytes rest : List ℕ) → overlaid (length front) bytes (front ++ rest) ≡ front ++ bytes ++ drop (length bytes) rest
overlaid_behind front bytes rest =
    let none : length front - length (front ++ rest) ≡ 0 = omega (arith, length-append front rest) in
    ap (λ (n : ℕ). take (length front) (front ++ rest) ++ replicate n 0 ++ bytes ++ drop (length front + length bytes) (front ++ rest)) none
    ∙ ap (λ (t : List ℕ). t ++ [] ++ bytes ++ drop (length front + length bytes) (front ++ rest)) (take_at front rest (length front) refl)
    ∙ ap (λ (t : List ℕ). t ++ bytes ++ drop (length front + length bytes) (front ++ rest)) (append-nil front)
    ∙ ap (λ (t : List ℕ). front ++ bytes ++ t) (sym (drop-drop (length bytes) (length front) (front ++ rest)) ∙ ap (drop (length bytes)) (drop_at front rest (length front) refl))

regrouped : (front this behind : List ℕ) → front ++ (this ++ 0 ∷ []) ++ behind ≡ (front ++ this) ++ (0 ∷ behind)
regrouped front this behind =
    ap (λ (t : List ℕ). t ++ behind) (sym (append_assoc front this (0 ∷ []))) ∙ append_assoc (front ++ this) (0 ∷ []) behind

-- the entry and a closed gate are written at the gate
pub holds_more : (old new : List ℕ) (contents : Contents) (payload : List ℕ) → Holds old contents → IsEntry (last_number contents + 1) payload
    → new ≡ overlaid (gate_of contents) (0x45 ∷ (entry_text (last_number contents + 1) payload ++ 0 ∷ [])) old
    → Holds new (with_payload contents payload)
holds_more old new contents payload held is written =
    let front = contents_text contents in
    let this = 0x45 ∷ entry_text (last_number contents + 1) payload in
    let behind = drop (length (this ++ 0 ∷ [])) held.rest in
    record {
      allowed = contents_are contents payload held.allowed is;
      rest = 0 ∷ behind;
      text = written ∙ ap (overlaid (length front) (this ++ 0 ∷ [])) held.text ∙ overlaid_behind front (this ++ 0 ∷ []) held.rest
          ∙ regrouped front this behind ∙ ap (λ (t : List ℕ). t ++ (0 ∷ behind)) (sym (contents_more contents payload));
      closed = λ opens. absurd (omega (arith, opens));
    }

-- ---- what a crash leaves

closed_byte : (rest : List ℕ) → IsClosed rest → (0 < length rest) × (get_or rest 0 0 ≢ 0x45)
closed_byte [] closed = absurd closed
closed_byte (gate ∷ rest) closed = (omega arith, closed)

closed_from : (rest : List ℕ) → 0 < length rest → get_or rest 0 0 ≢ 0x45 → IsClosed rest
closed_from [] some closed = absurd (omega arith)
closed_from (gate ∷ rest) some closed = closed

-- what stands before the gate is as it was, and the gate is there and closed
pub holds_still : (old new : List ℕ) (contents : Contents) → Holds old contents
    → ((place : ℕ) → place < gate_of contents → get_or new place 0 ≡ get_or old place 0) → gate_of contents < length new
    → get_or new (gate_of contents) 0 ≢ 0x45 → Holds new contents
holds_still old new contents held same inside closed =
    let front = contents_text contents in
    let kept : take (length front) new ≡ front =
    ext_get_or 0 _ _ (omega (arith, length-take (length front) new))
    (λ k h. (let low : k < length front = omega (arith, length-take (length front) new) in
    get_or-take (length front) new k 0 low ∙ same k low ∙ ap (λ (t : List ℕ). get_or t k 0) held.text ∙ get_or_append_left front held.rest 0 k low)) in
    record {
      allowed = held.allowed;
      rest = drop (length front) new;
      text = sym (take-append-drop (length front) new) ∙ ap (λ (t : List ℕ). t ++ drop (length front) new) kept;
      closed = closed_from (drop (length front) new) (omega (arith, length-drop (length front) new))
          (λ opens. closed (sym (get_or-drop (length front) new 0 0 ∙ ap (λ (n : ℕ). get_or new n 0) (let here : length front + 0 ≡ length front = omega arith in here)) ∙ opens));
    }

gate_closed : (bytes : List ℕ) (contents : Contents) → Holds bytes contents → (gate_of contents < length bytes) × (get_or bytes (gate_of contents) 0 ≢ 0x45)
gate_closed bytes contents held =
    let front = contents_text contents in
    let first = closed_byte held.rest held.closed in
    let none : length front - length front ≡ 0 = omega arith in (
      omega (arith, ap length held.text, length-append front held.rest, first.0),
      λ opens. first.1 (sym (ap (λ (t : List ℕ). get_or t (length front) 0) held.text
          ∙ get_or-append_right front held.rest (length front) (length front) 0 refl (omega arith) ∙ ap (λ (n : ℕ). get_or held.rest n 0) none) ∙ opens),
    )

pub may_hold_more : (old new : List ℕ) (contents : Contents) (payload : List ℕ) → Holds old contents → IsEntry (last_number contents + 1) payload
    → GatedTorn (gate_of contents) 0x45 (entry_text (last_number contents + 1) payload ++ 0 ∷ []) old new
    → Holds new contents ⊎ Holds new (with_payload contents payload)
may_hold_more old new contents payload held is (inl torn) =
    let gate = gate_closed old contents held in
    let at = gate_of contents in
    inl (holds_still old new contents held (λ place low. torn.before place (omega arith) (omega (arith, gate.0)))
    (omega (arith, torn.no_shorter, gate.0))
    (λ opens. gate.1 (sym (torn.before at (omega arith) gate.0) ∙ opens)))
may_hold_more old new contents payload held is (inr torn) =
    let gate = gate_closed old contents held in
    let at = gate_of contents in
    let text = entry_text (last_number contents + 1) payload ++ 0 ∷ [] in
    let whole = overlaid (at + 1) text old in
    let long : length whole ≡ max (length old) (at + 1 + length text) = length-overlaid (at + 1) text old in
    elim (cases_eq (get_or new at 0) 0x45) [
      | inl opens ↦ inr (holds_more old new contents payload held is (letter_whole at 0x45 text old new torn opens))
      | inr closed ↦ inl (holds_still old new contents held
          (λ place low. torn.before place low (omega (arith, long)) ∙ overlaid-before (at + 1) text old place (omega arith))
          (omega (arith, torn.no_shorter, long)) closed)
    ]

-- ---- a journal's entry

adds : (current : CurrentFile) (last : ℕ) (payload old new : List ℕ) (contents : Contents) → IsEntry (last + 1) payload → EndAt current last contents
    → Holds old contents → Overlays current.gate (0x45 ∷ (entry_text (last + 1) payload ++ 0 ∷ [])) old new → Holds new (with_payload contents payload)
adds current last payload old new contents is at held written =
    let Entry : ℕ → Type 0 = λ n. IsEntry (n + 1) payload in
    let Written : ℕ → ℕ → Type 0 = λ gate n. new ≡ overlaid gate (0x45 ∷ (entry_text (n + 1) payload ++ 0 ∷ [])) old in
    holds_more old new contents payload held (subst Entry at.number is)
    (subst (λ n. Written (gate_of contents) n) at.number (subst (λ gate. Written gate last) at.gate written))

may_add : (current : CurrentFile) (last : ℕ) (payload old new : List ℕ) (contents : Contents) → IsEntry (last + 1) payload → EndAt current last contents
    → Holds old contents → GatedTorn current.gate 0x45 (entry_text (last + 1) payload ++ 0 ∷ []) old new
    → Holds new contents ⊎ Holds new (with_payload contents payload)
may_add current last payload old new contents is at held torn =
    let Entry : ℕ → Type 0 = λ n. IsEntry (n + 1) payload in
    let Left : ℕ → ℕ → Type 0 = λ gate n. GatedTorn gate 0x45 (entry_text (n + 1) payload ++ 0 ∷ []) old new in
    may_hold_more old new contents payload held (subst Entry at.number is)
    (subst (λ n. Left (gate_of contents) n) at.number (subst (λ gate. Left gate last) at.gate torn))

at_current : (place : Option CurrentFile) (current : CurrentFile) (last : ℕ) (contents : Contents) → place ≡ Some current → IsAt place last contents
    → EndAt current last contents
at_current place current last contents is at = let P : Option CurrentFile → Type 0 = λ p. IsAt p last contents in subst P is at

pub writes_entry : {T E : Type 0} {before now : DiskView} {answer : Result T E} (journal : JournalView) (current : CurrentFile) (last : ℕ) (payload : List ℕ)
    → journal.current ≡ Some current → journal.last ≡ last → IsEntry (journal.last + 1) payload
    → WritesFile current.file (Overlays current.gate (0x45 ∷ (entry_text (last + 1) payload ++ 0 ∷ [])))
    (GatedTorn current.gate 0x45 (entry_text (last + 1) payload ++ 0 ∷ [])) before now answer
    → WritesFile (file_of journal.current) (AddsEntry journal payload) (MayAddEntry journal payload) before now answer
writes_entry {before = before} {now = now} {answer = answer} journal current last payload is number entry does =
    let text = entry_text (last + 1) payload ++ 0 ∷ [] in
    let Entry : ℕ → Type 0 = λ n. IsEntry (n + 1) payload in
    let at : (contents : Contents) → IsAt journal.current journal.last contents → EndAt current last contents =
    λ contents known. (let P : ℕ → Type 0 = λ n. EndAt current n contents in
    subst P number (at_current journal.current current journal.last contents is known)) in
    let P : ℕ → Type 0 = λ file. WritesFile file (AddsEntry journal payload) (MayAddEntry journal payload) before now answer in
    subst P (sym (ap file_of is))
    (writes_weaker (Overlays current.gate (0x45 ∷ text)) (GatedTorn current.gate 0x45 text) does
    (λ old new written contents known held. adds current last payload old new contents (subst Entry number entry) (at contents known) held written)
    (λ old new torn contents known held. may_add current last payload old new contents (subst Entry number entry) (at contents known) held torn))
