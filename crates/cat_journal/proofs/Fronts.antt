-- The front of a file, as it is read.
use Rattle.std.proofs.Common.{◌≡◌, ℕ, ◌+◌, ◌-◌, List, ◌++◌, length, take, drop, min, sym, ap, subst, ◌∙◌, append_assoc, arith}
use Rattle.std.proofs.lemmas.List.{take_min, drop-drop}
use Rattle.std.proofs.Math.Seq.{take-add}
use Rattle.sha2.specs.Hashers.{Holds256}
use Rattle.sha2.specs.declared.Sha256.{Sha256}

-- as many of the first bytes as there are
pub first_bytes : (size count : ℕ) (bytes into : List ℕ) → count ≡ min size (length bytes - 0) → take count into ≡ take count (drop 0 bytes)
    → take count into ≡ take size bytes
first_bytes size count bytes into is given =
    let all : length bytes - 0 ≡ length bytes = omega arith in
    given ∙ ap (λ (n : ℕ). take n bytes) (is ∙ ap (min size) all) ∙ take_min size bytes

-- one part more of a snapshot
pub part_more : (bytes : List ℕ) (done count : ℕ) → take done (drop 64 bytes) ++ take count (drop (64 + done) bytes) ≡ take (done + count) (drop 64 bytes)
part_more bytes done count =
    ap (λ (t : List ℕ). take done (drop 64 bytes) ++ take count t) (sym (drop-drop done 64 bytes)) ∙ sym (take-add done count (drop 64 bytes))

-- what is digested behind the part before
pub digested_more : (bytes fields : List ℕ) (done count : ℕ) (old new : Sha256) → Holds256 old (fields ++ take done (drop 64 bytes))
    → ((before : List ℕ) → Holds256 old before → Holds256 new (before ++ take count (drop (64 + done) bytes)))
    → Holds256 new (fields ++ take (done + count) (drop 64 bytes))
digested_more bytes fields done count old new held digests =
    let text : fields ++ take done (drop 64 bytes) ++ take count (drop (64 + done) bytes) ≡ fields ++ take (done + count) (drop 64 bytes) =
    append_assoc fields (take done (drop 64 bytes)) (take count (drop (64 + done) bytes)) ∙ ap (λ (t : List ℕ). fields ++ t) (part_more bytes done count) in
    subst (Holds256 new) text (digests (fields ++ take done (drop 64 bytes)) held)
