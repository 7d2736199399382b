-- Where the entries of a file stand.
use Rattle.std.proofs.Common.{◌≡◌, ℕ, ◌+◌, List, [], ◌∷◌, ◌++◌, length, refl, sym, ap, ◌∙◌, subst, arith}
use Rattle.std.proofs.lemmas.List.{length-append, map-append}
use Rattle.cat_journal.specs.Contents.{contents_of, entries_text, gate_of, number_after}
use Rattle.cat_journal.specs.Entries.{entries_of, entry_at, payloads_of}
use Rattle.cat_journal.specs.Layout.{Head, entry_text, front_text}
use Rattle.cat_journal.specs.declared.entry_list.Entry.{Entry}
use Rattle.cat_journal.proofs.Spelling.{length-entry_text, length-front_text}

pub payloads_again : (form number place : ℕ) (payloads : List (List ℕ)) → payloads_of (entries_of form number place payloads) ≡ payloads
payloads_again form number place [] = refl
payloads_again form number place (payload ∷ payloads) =
    ap (λ (rest : List (List ℕ)). payload ∷ rest) (payloads_again form (number_after form number payload) (place + (45 + length payload)) payloads)

entry_length : (number : ℕ) (payload : List ℕ) (rest : List ℕ) → length ((0x45 ∷ entry_text number payload) ++ rest) ≡ 45 + length payload + length rest
entry_length number payload rest = omega (arith, length-append (0x45 ∷ entry_text number payload) rest, length-entry_text number payload)

-- an entry stands behind the texts of those before it
stray_place : (form number place : ℕ) (payloads : List (List ℕ)) (before : List Entry) (stray : Entry) (more : List Entry) → entries_of form number place payloads ≡ before ++ stray ∷ more
    → stray.place ≡ place + length (entries_text form number (payloads_of before))
stray_place form number place [] [] stray more same = absurd (cc)
stray_place form number place [] (one ∷ before) stray more same = absurd (cc)
stray_place form number place (payload ∷ payloads) [] stray more same =
    let is : entry_at (number + 1) place payload ≡ stray = cc in
    omega (arith, ap (λ (e : Entry). e.place) is)
stray_place form number place (payload ∷ payloads) (one ∷ before) stray more same =
    let is : entry_at (number + 1) place payload ≡ one = cc in
    let rest : entries_of form (number_after form number payload) (place + (45 + length payload)) payloads ≡ before ++ stray ∷ more = cc in
    let bytes : payload ≡ one.bytes = ap (λ (e : Entry). e.bytes) is in
    let P : List ℕ → Type 0 = λ bytes. stray.place ≡ place + length ((0x45 ∷ entry_text (number + 1) bytes) ++ entries_text form (number_after form number bytes) (payloads_of before)) in
    let behind = stray_place form (number_after form number payload) (place + (45 + length payload)) payloads before stray more rest in
    let here : P payload =
    omega (arith, behind, entry_length (number + 1) payload (entries_text form (number_after form number payload) (payloads_of before))) in
    subst P bytes here

pub stray_gate : (head : Head) (snapshot : List ℕ) (payloads : List (List ℕ)) (before : List Entry) (stray : Entry) (more : List Entry)
    → entries_of head.form head.number (64 + length snapshot) payloads ≡ before ++ stray ∷ more → stray.place ≡ gate_of (contents_of head snapshot (payloads_of before))
stray_gate head snapshot payloads before stray more same =
    let text = entries_text head.form head.number (payloads_of before) in
    omega (
      arith,
      stray_place head.form head.number (64 + length snapshot) payloads before stray more same,
      length-append (0x4A ∷ front_text head snapshot) text,
      length-front_text head snapshot,
    )

pub stray_payloads : (form number place : ℕ) (payloads : List (List ℕ)) (before : List Entry) (stray : Entry) (more : List Entry) → entries_of form number place payloads ≡ before ++ stray ∷ more
    → payloads ≡ payloads_of before ++ stray.bytes ∷ payloads_of more
stray_payloads form number place payloads before stray more same =
    sym (payloads_again form number place payloads) ∙ ap payloads_of same ∙ map-append (λ (entry : Entry). entry.bytes) before (stray ∷ more)
