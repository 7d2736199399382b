-- What is read of a front and of an entry that stand in bytes.
use Rattle.std.proofs.Common.{◌≡◌, ℕ, ◌+◌, ◌<◌, ◌^◌, List, ◌∷◌, ◌++◌, length, take, drop, replicate, get_or, refl, sym, ap, subst, ◌∙◌, append_assoc, arith, inl, inr}
use Rattle.std.proofs.lemmas.List.{length-append, take_at, drop_at, drop-drop}
use Rattle.sha2.specs.Sha256.{sha256}
use Rattle.sha2.proofs.Facts256.{length-sha256}
use Rattle.byteorder.specs.Endian.{big_bytes, big_number}
use Rattle.byteorder.specs.Numbers.{big_number-reads_back}
use Rattle.cat_journal.specs.Layout.{Head, IsHead, head_text, front_text, entry_fields, entry_text, IsEntry}
use Rattle.cat_journal.specs.Contents.{IsFront}
use Rattle.cat_journal.specs.Fields.{form_in, generation_in, number_in, size_in, entry_number_in, entry_size_in}

reads_8 : (x : ℕ) (rest : List ℕ) → x < 2 ^ 64 → big_number 8 (big_bytes 8 x ++ rest) ≡ x
reads_8 x rest lt = big_number-reads_back 8 x rest lt

reads_4 : (x : ℕ) (rest : List ℕ) → x < 2 ^ 32 → big_number 4 (big_bytes 4 x ++ rest) ≡ x
reads_4 x rest lt = big_number-reads_back 4 x rest lt

-- ---- a front

pub record ReadsFront (bytes : List ℕ) (head : Head) (snapshot rest : List ℕ) : Type 0 where
  pub gate : get_or bytes 0 0 ≡ 0x4A
  pub form : form_in bytes ≡ head.form
  pub zeros : take 6 (drop 2 bytes) ≡ replicate 6 0
  pub fields : take 31 (drop 1 bytes) ≡ head_text head (length snapshot)
  pub generation : generation_in bytes ≡ head.generation
  pub number : number_in bytes ≡ head.number
  pub size : size_in bytes ≡ length snapshot
  pub digest : take 32 (drop 32 bytes) ≡ sha256 (head_text head (length snapshot) ++ snapshot)
  pub snapshot_read : take (length snapshot) (drop 64 bytes) ≡ snapshot
  pub behind : drop (64 + length snapshot) bytes ≡ rest
  pub long : length bytes ≡ 64 + length snapshot + length rest

generation_fits : (head : Head) → IsHead head → head.generation < 2 ^ 64
generation_fits head is = elim is.form [ inl one ↦ omega (arith, one.1) | inr two ↦ two.1 ]

reads_parts : (head : Head) (snapshot rest digest : List ℕ) → IsFront head snapshot → length digest ≡ 32
    → digest ≡ sha256 (head_text head (length snapshot) ++ snapshot)
    → ReadsFront (0x4A ∷ (head_text head (length snapshot) ++ (digest ++ (snapshot ++ rest)))) head snapshot rest
reads_parts head snapshot rest digest is sized of =
    let behind = digest ++ (snapshot ++ rest) in
    let size = length snapshot in
    let bytes : List ℕ = 0x4A ∷ (head_text head size ++ behind) in
    let tail : drop 64 bytes ≡ snapshot ++ rest = drop_at digest (snapshot ++ rest) 32 sized in
    record {
      gate = refl;
      form = refl;
      zeros = refl;
      fields = refl;
      generation = reads_8 head.generation (big_bytes 8 head.number ++ big_bytes 8 size ++ behind) (generation_fits head is.fields);
      number = reads_8 head.number (big_bytes 8 size ++ behind) is.fields.number;
      size = reads_8 size behind is.size;
      digest = take_at digest (snapshot ++ rest) 32 sized ∙ of;
      snapshot_read = ap (take size) tail ∙ take_at snapshot rest size refl;
      behind = sym (drop-drop size 64 bytes) ∙ ap (drop size) tail ∙ drop_at snapshot rest size refl;
      long = omega (arith, length-append digest (snapshot ++ rest), length-append snapshot rest, sized);
    }

pub reads_front : (bytes : List ℕ) (head : Head) (snapshot rest : List ℕ) → IsFront head snapshot
    → bytes ≡ (0x4A ∷ front_text head snapshot) ++ rest → ReadsFront bytes head snapshot rest
unfolding front_text
reads_front bytes head snapshot rest is text =
    let fields = head_text head (length snapshot) in
    let digest = sha256 (fields ++ snapshot) in
    let regrouped : (fields ++ digest ++ snapshot) ++ rest ≡ fields ++ (digest ++ (snapshot ++ rest)) =
    append_assoc (fields ++ digest) snapshot rest ∙ append_assoc fields digest (snapshot ++ rest) in
    subst (λ (t : List ℕ). ReadsFront t head snapshot rest) (sym (text ∙ ap (λ (t : List ℕ). 0x4A ∷ t) regrouped))
    (reads_parts head snapshot rest digest is (length-sha256 (fields ++ snapshot)) refl)

-- ---- an entry

pub record ReadsEntry (bytes : List ℕ) (number : ℕ) (payload rest : List ℕ) : Type 0 where
  pub number_read : entry_number_in bytes ≡ number
  pub size : entry_size_in bytes ≡ length payload
  pub payload_read : take (length payload) (drop 12 bytes) ≡ payload
  pub digest : take 32 (drop (12 + length payload) bytes) ≡ sha256 (entry_fields number payload)
  pub behind : drop (44 + length payload) bytes ≡ rest
  pub long : length bytes ≡ 44 + length payload + length rest

entry_parts : (number : ℕ) (payload rest digest : List ℕ) → IsEntry number payload → length digest ≡ 32
    → digest ≡ sha256 (entry_fields number payload)
    → ReadsEntry (big_bytes 8 number ++ (big_bytes 4 (length payload) ++ (payload ++ (digest ++ rest)))) number payload rest
entry_parts number payload rest digest is sized of =
    let size = length payload in
    let behind = payload ++ (digest ++ rest) in
    let bytes : List ℕ = big_bytes 8 number ++ (big_bytes 4 size ++ behind) in
    let tail : drop (12 + size) bytes ≡ digest ++ rest =
    sym (drop-drop size 12 bytes) ∙ drop_at payload (digest ++ rest) size refl in
    let end : 12 + size + 32 ≡ 44 + size = omega arith in
    record {
      number_read = reads_8 number (big_bytes 4 size ++ behind) is.counted;
      size = reads_4 size behind is.short;
      payload_read = take_at payload (digest ++ rest) size refl;
      digest = ap (take 32) tail ∙ take_at digest rest 32 sized ∙ of;
      behind = ap (λ (n : ℕ). drop n bytes) (sym end) ∙ sym (drop-drop 32 (12 + size) bytes) ∙ ap (drop 32) tail ∙ drop_at digest rest 32 sized;
      long = omega (arith, length-append payload (digest ++ rest), length-append digest rest, sized);
    }

pub reads_entry : (bytes : List ℕ) (number : ℕ) (payload rest : List ℕ) → IsEntry number payload
    → bytes ≡ entry_text number payload ++ rest → ReadsEntry bytes number payload rest
unfolding entry_text
reads_entry bytes number payload rest is text =
    let digest = sha256 (entry_fields number payload) in
    let head = big_bytes 8 number ++ big_bytes 4 (length payload) in
    let regrouped : (head ++ payload ++ digest) ++ rest ≡ head ++ (payload ++ (digest ++ rest)) =
    append_assoc (head ++ payload) digest rest ∙ append_assoc head payload (digest ++ rest) in
    subst (λ (t : List ℕ). ReadsEntry t number payload rest) (sym (text ∙ regrouped))
    (entry_parts number payload rest digest is (length-sha256 (entry_fields number payload)) refl)
