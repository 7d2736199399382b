-- The blocks of a file, by its bytes.
use Rattle.std.proofs.Common.{◌≡◌, ℕ, ◌+◌, ◌*◌, ◌<◌, ◌≤◌, List, ◌∷◌, ◌++◌, length, take, drop, get_or, sym, ap, ◌∙◌, arith}
use Rattle.std.proofs.lemmas.List.{append_assoc, length-take, length-drop, get_or-take, get_or-drop, ext_get_or, get_or-append-add, drop_at, take_at}
use Rattle.volume_store.specs.Committed.{part_at}

-- two files have the same bytes below a place, which is in both
pub record SameBelow (place : ℕ) (old new : List ℕ) : Type 0 where
  pub in_old : place ≤ length old
  pub in_new : place ≤ length new
  pub bytes : (at : ℕ) → at < place → get_or new at 0 ≡ get_or old at 0

-- a part of a file that ends at or below the place
pub part_same : (size at place : ℕ) (old new : List ℕ) → SameBelow place old new → at + size ≤ place
    → take size (drop at new) ≡ take size (drop at old)
part_same size at place old new same ends = ext_get_or 0 _ _
    (omega (arith, length-take size (drop at new), length-take size (drop at old), length-drop at new, length-drop at old, same.in_old, same.in_new))
    (λ k h.
    let below : k < size = omega (arith, length-take size (drop at new)) in
    get_or-take size (drop at new) k 0 below ∙ get_or-drop at new k 0
    ∙ same.bytes (at + k) (omega arith)
    ∙ sym (get_or-take size (drop at old) k 0 below ∙ get_or-drop at old k 0))

pub block_same : (size place number : ℕ) (old new : List ℕ) → SameBelow place old new → 4096 * number + size ≤ place
    → part_at size new number ≡ part_at size old number
unfolding part_at
block_same size place number old new same ends = part_same size (4096 * number) place old new same ends

-- a part behind so many bytes
pub part_behind : (size at : ℕ) (before part rest : List ℕ) → length before ≡ at → length part ≡ size
    → take size (drop at (before ++ part ++ rest)) ≡ part
part_behind size at before part rest from long =
    ap (λ bytes. take size (drop at bytes)) (append_assoc before part rest)
    ∙ ap (take size) (drop_at before (part ++ rest) at from)
    ∙ take_at part rest size long

pub block_behind : (size number : ℕ) (before block rest : List ℕ) → length before ≡ 4096 * number → length block ≡ size
    → part_at size (before ++ block ++ rest) number ≡ block
unfolding part_at
block_behind size number before block rest from long = part_behind size (4096 * number) before block rest from long

-- the byte behind so many bytes
pub byte_behind : (at byte : ℕ) (before rest : List ℕ) → length before ≡ at → get_or (before ++ byte ∷ rest) at 0 ≡ byte
byte_behind at byte before rest from =
    ap (λ place. get_or (before ++ byte ∷ rest) place 0) (let here : at ≡ length before + 0 = omega (arith, from) in here)
    ∙ get_or-append-add before (byte ∷ rest) 0 0
