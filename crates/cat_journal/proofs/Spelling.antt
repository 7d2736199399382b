-- How long the texts of a journal are, and how they are put together.
use Rattle.std.proofs.Common.{◌≡◌, ℕ, ◌+◌, List, [], ◌∷◌, ◌++◌, length, refl, sym, ap, ◌∙◌, append_assoc, arith}
use Rattle.std.proofs.lemmas.List.{length-append, append-nil}
use Rattle.sha2.specs.Sha256.{sha256}
use Rattle.sha2.proofs.Facts256.{length-sha256}
use Rattle.byteorder.specs.Endian.{big_bytes}
use Rattle.cat_journal.specs.Layout.{Head, head_text, front_text, entry_fields, entry_text}
use Rattle.cat_journal.specs.Contents.{entries_text, number_after, last_of}
use Rattle.cat_journal.specs.Journal.{new_head, new_text}

pub length-head_text : (head : Head) (size : ℕ) → length (head_text head size) ≡ 31
length-head_text head size = refl

pub length-front_text : (head : Head) (snapshot : List ℕ) → length (front_text head snapshot) ≡ 63 + length snapshot
unfolding front_text
length-front_text head snapshot =
    let fields = head_text head (length snapshot) in
    let digest = sha256 (fields ++ snapshot) in
    length-append (fields ++ digest) snapshot
    ∙ omega (arith, length-append fields digest, length-head_text head (length snapshot), length-sha256 (fields ++ snapshot))

pub length-entry_fields : (number : ℕ) (payload : List ℕ) → length (entry_fields number payload) ≡ 12 + length payload
length-entry_fields number payload = length-append (big_bytes 8 number ++ big_bytes 4 (length payload)) payload

pub length-entry_text : (number : ℕ) (payload : List ℕ) → length (entry_text number payload) ≡ 44 + length payload
unfolding entry_text
length-entry_text number payload =
    length-append (entry_fields number payload) (sha256 (entry_fields number payload))
    ∙ omega (arith, length-entry_fields number payload, length-sha256 (entry_fields number payload))

-- an entry of its parts
pub entry_parts : (number : ℕ) (payload fields digest : List ℕ) → fields ≡ entry_fields number payload → digest ≡ sha256 fields
    → fields ++ (digest ++ 0 ∷ []) ≡ entry_text number payload ++ 0 ∷ []
unfolding entry_text
entry_parts number payload fields digest is of =
    sym (append_assoc fields digest (0 ∷ []))
    ∙ ap (λ (t : List ℕ). fields ++ t ++ 0 ∷ []) of
    ∙ ap (λ (t : List ℕ). t ++ sha256 t ++ 0 ∷ []) is

-- a new file of its parts
pub file_parts : (generation number : ℕ) (snapshot fields digest : List ℕ) → fields ≡ head_text (new_head generation number) (length snapshot)
    → digest ≡ sha256 (fields ++ snapshot)
    → fields ++ (digest ++ (snapshot ++ (0 ∷ []))) ≡ new_text (new_head generation number) snapshot
unfolding front_text
file_parts generation number snapshot fields digest is of =
    sym (append_assoc fields digest (snapshot ++ 0 ∷ []))
    ∙ sym (append_assoc (fields ++ digest) snapshot (0 ∷ []))
    ∙ ap (λ (t : List ℕ). fields ++ t ++ snapshot ++ 0 ∷ []) of
    ∙ ap (λ (t : List ℕ). t ++ sha256 (t ++ snapshot) ++ snapshot ++ 0 ∷ []) is

-- entries behind entries
pub entries_more : (form number : ℕ) (payloads : List (List ℕ)) (payload : List ℕ)
    → entries_text form number (payloads ++ payload ∷ [])
    ≡ entries_text form number payloads ++ (0x45 ∷ entry_text (last_of form number payloads + 1) payload)
entries_more form number [] payload = append-nil (0x45 ∷ entry_text (number + 1) payload)
entries_more form number (first ∷ payloads) payload =
    let this = 0x45 ∷ entry_text (number + 1) first in
    let next = number_after form number first in
    ap (λ (t : List ℕ). this ++ t) (entries_more form next payloads payload)
    ∙ sym (append_assoc this (entries_text form next payloads) (0x45 ∷ entry_text (last_of form next payloads + 1) payload))

pub last_more : (form number : ℕ) (payloads : List (List ℕ)) (payload : List ℕ)
    → last_of form number (payloads ++ payload ∷ []) ≡ number_after form (last_of form number payloads) payload
last_more form number [] payload = refl
last_more form number (first ∷ payloads) payload = last_more form (number_after form number first) payloads payload
