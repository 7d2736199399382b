-- Bytes that are all zero.
use Rattle.std.proofs.Common.{◌≡◌, ℕ, ◌+◌, ◌-◌, ◌≤◌, Bool, List, [], ◌∷◌, length, take, drop, get_or, replicate, All, refl, sym, ap, subst, ◌∙◌, arith}
use Rattle.std.specs.Bool.{Decides}
use Rattle.std.specs.Prelude.{IsTrue, ◌↔◌}
use Rattle.std.specs.List.{AllByRecursion}
use Rattle.std.proofs.lemmas.List.{take_rest, length-drop, take-replicate}
use Rattle.std.proofs.lemmas.List.Elements.{recursion_from_All, All-replicate, All-cons, All-tail}

zeros_by_recursion : (bytes : List ℕ) → AllByRecursion (λ byte. byte ≡ 0) bytes → bytes ≡ replicate (length bytes) 0
zeros_by_recursion [] zeros = refl
zeros_by_recursion (byte ∷ bytes) zeros = let first = zeros.0 in let rest = zeros_by_recursion bytes zeros.1 in cc

pub zeros_are : (bytes : List ℕ) → All (λ byte. byte ≡ 0) bytes → bytes ≡ replicate (length bytes) 0
zeros_are bytes zeros = zeros_by_recursion bytes (recursion_from_All (λ (byte : ℕ). byte ≡ 0) bytes zeros)

-- where each byte is the same as the one before it, all are the same as the first
all_as_first : (first : ℕ) (rest : List ℕ) → rest ≡ take (length rest) (first ∷ rest) → rest ≡ replicate (length rest) first
all_as_first first [] same = refl
all_as_first first (byte ∷ rest) same =
    let ahead : byte ≡ first = ap (λ (bytes : List ℕ). get_or bytes 0 0) same in
    let onward : rest ≡ take (length rest) (byte ∷ rest) = ap (λ (bytes : List ℕ). drop 1 bytes) same in
    let again = all_as_first byte rest onward in cc

-- a test whether each byte is the same as the one before it, where the first is zero
pub zeros_if_same : (answer : Bool) (bytes rest : List ℕ) → rest ≡ drop 1 bytes → get_or bytes 0 0 ≡ 0 → 1 ≤ length bytes
    → Decides answer (rest ≡ take (length rest) bytes)
    → IsTrue answer ↔ All (λ byte. byte ≡ 0) bytes
zeros_if_same answer [] rest is first some test = absurd (omega (arith, some))
zeros_if_same answer (byte ∷ bytes) rest is first some test =
    let Zero : ℕ → Type 0 = λ (byte : ℕ). byte ≡ 0 in
    let same : Decides answer (bytes ≡ take (length bytes) (byte ∷ bytes)) =
    subst (λ (r : List ℕ). Decides answer (r ≡ take (length r) (byte ∷ bytes))) is test in (
      λ yes. (let all : bytes ≡ replicate (length bytes) byte = all_as_first byte bytes (same.0 yes) in
          All-cons Zero byte bytes first (subst (All Zero) (sym all) (All-replicate Zero (length bytes) byte first))),
      λ zeros. (let behind : bytes ≡ replicate (length bytes) 0 = zeros_are bytes (All-tail Zero byte bytes zeros) in
          let whole : byte ∷ bytes ≡ replicate (length (byte ∷ bytes)) 0 = zeros_are (byte ∷ bytes) zeros in
          same.1 (behind ∙ sym (ap (take (length bytes)) whole ∙ take-replicate (length bytes) (length (byte ∷ bytes)) 0 (omega arith)))),
    )

-- a test of the bytes from a place on
pub zeros_from : (answer : Bool) (from count : ℕ) (bytes : List ℕ) → length bytes ≡ from + count
    → (IsTrue answer ↔ All (λ byte. byte ≡ 0) (take (length bytes - from) (drop from bytes)))
    → IsTrue answer ↔ (drop from bytes ≡ replicate count 0)
zeros_from answer from count bytes whole test =
    let Zero : List ℕ → Type 0 = All (λ (byte : ℕ). byte ≡ 0) in
    let rest = take_rest bytes from in
    let size : length (drop from bytes) ≡ count = omega (arith, length-drop from bytes) in (
      λ yes. zeros_are (drop from bytes) (subst Zero rest (test.0 yes)) ∙ ap (λ (n : ℕ). replicate n 0) size,
      λ zeros. test.1 (subst Zero (sym (rest ∙ zeros)) (All-replicate (λ (byte : ℕ). byte ≡ 0) count 0 refl)),
    )

pub zeros_within : (answer : Bool) (used used-in skip size : ℕ) (bytes : List ℕ) → used ≡ used-in → used ≤ size → length bytes ≡ skip + size
    → (IsTrue answer ↔ All (λ byte. byte ≡ 0) (take (length bytes - (skip + used)) (drop (skip + used) bytes)))
    → IsTrue answer ↔ ((skip + used-in ≤ length bytes) × (drop (skip + used-in) bytes ≡ replicate (size - used-in) 0))
zeros_within answer used used-in skip size bytes same fits whole test =
    let known = zeros_from answer (skip + used) (size - used) bytes (omega arith) test in
    let Known : ℕ → Type 0 = λ (n : ℕ). IsTrue answer ↔ ((skip + n ≤ length bytes) × (drop (skip + n) bytes ≡ replicate (size - n) 0)) in
    subst Known same (λ yes. (omega (arith, fits, whole), known.0 yes), λ right. known.1 right.1)
