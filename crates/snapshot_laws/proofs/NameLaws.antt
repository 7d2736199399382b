-- Names that are judged: what is read is spelled so and allowed, and what is allowed is read.
use Rattle.std.proofs.Common.{◌≡◌, ℕ, ◌-◌, ◌≤◌, Bool, true, false, cond, List, [], ◌∷◌, ◌++◌, length, Ok, Err, refl, ap, ◌∙◌, arith}
use Rattle.save_stream.specs.Reading.{is_name}
use Rattle.save_stream.specs.Spelling.{IsNameTo, short_text}
use Rattle.catalog_spelling.specs.Reading.{Part, ◌>>=◌, checked}
use Rattle.catalog_spelling.specs.Spelled.{Took, Judged, Reads}
use Rattle.catalog_spelling.specs.Fields.{bytes_at, byte_within_at, text_at, name_at}
use Rattle.catalog_spelling.proofs.Fields.{byte-within, bytes-empty, name-reads}
use Rattle.catalog_spelling.specs.Names.{name_if_at}

-- a name that is allowed by a test
abbrev pub IsNameIf : (List ℕ → Bool) → List ℕ → Type 0
IsNameIf allows name = IsNameTo 64 name × (allows name ≡ true)

-- a length of a name alone is read to its end
length-alone : (size : ℕ) → (1 ≤ size) × (size ≤ 64) → name_at 64 (size ∷ []) ≡ Err 0
unfolding text_at
length-alone size is =
    let read : byte_within_at 1 64 (size ∷ []) ≡ Ok (size, []) = (byte-within 1 64 (omega arith)).again size [] is in
    ap (λ (part : Part ℕ). part >>= λ size. checked is_name size.1 (bytes_at size.0 size.1)) read ∙ ap (checked is_name []) (bytes-empty size (omega (arith, is.0)))

-- what is made of a name that was read
abbrev judged : (List ℕ → Bool) → List ℕ → Part (List ℕ) → Part (List ℕ)
judged allows bytes part = part >>= λ name. cond (allows name.0) (Ok name) (Err (length bytes - 1))

judged-name : (allows : List ℕ → Bool) (bytes name rest : List ℕ) (test : Bool) → allows name ≡ test → Took bytes (short_text name) rest × IsNameTo 64 name
    → Judged (name_if_at allows) bytes (cond test (Ok (name, rest)) (Err (length bytes - 1))) (λ name rest. Took bytes (short_text name) rest × IsNameIf allows name)
unfolding name_if_at
judged-name allows bytes name rest true is found = (found.0, (found.1, is))
judged-name allows bytes name rest false is found = record {
  before = length name ∷ [];
  bad = name ++ rest;
  parts = found.0.parts;
  size = let all = ap (λ (t : List ℕ). length t) found.0.parts in omega (arith, all);
  whole = ap (λ (part : Part (List ℕ)). judged allows (length name ∷ []) part) (length-alone (length name) (omega (arith, found.1.0.0), found.1.0.1));
}

judged-part : (allows : List ℕ → Bool) (bytes : List ℕ) (part : Part (List ℕ)) → Judged (name_at 64) bytes part (λ name rest. Took bytes (short_text name) rest × IsNameTo 64 name)
    → Judged (name_if_at allows) bytes (judged allows bytes part) (λ name rest. Took bytes (short_text name) rest × IsNameIf allows name)
unfolding name_if_at
judged-part allows bytes (Ok name) found = judged-name allows bytes name.0 name.1 (allows name.0) refl found
judged-part allows bytes (Err behind) found = record {
  before = found.before;
  bad = found.bad;
  parts = found.parts;
  size = found.size;
  whole = ap (λ (part : Part (List ℕ)). judged allows found.before part) found.whole;
}

pub name_if-reads : (allows : List ℕ → Bool) → Reads (name_if_at allows) short_text (IsNameIf allows)
unfolding name_if_at
name_if-reads allows = record {
  found = λ bytes fits. judged-part allows bytes (name_at 64 bytes) ((name-reads 64 (omega arith)).found bytes fits);
  again = λ name rest is.
      ap (λ (part : Part (List ℕ)). judged allows (short_text name ++ rest) part) ((name-reads 64 (omega arith)).again name rest is.0)
      ∙ ap (λ (test : Bool). cond test (Ok (name, rest)) (Err (length (short_text name ++ rest) - 1))) is.1;
}
