-- A write in room that holds a file's bytes.
use Rattle.std.proofs.Common.{◌≡◌, ℕ, ◌+◌, ◌-◌, ◌<◌, ◌≤◌, List, ◌++◌, length, max, take, drop, replicate, arith, ap, sym, ◌∙◌}
use Rattle.std.proofs.lemmas.List.{places, drop-drop, length-take, length-append, length-replicate}
use Rattle.std.proofs.lemmas.Grind.{same_number_lists}
use Rattle.room_disk.specs.Crash.{overlaid}

pub padded_front : (held mid : List ℕ) (len at : ℕ) → at ≤ length held → len < at
    → mid ≡ take len held ++ replicate (at - len) 0 ++ drop at held → take at mid ≡ take at (take len held) ++ replicate (at - len) 0
padded_front held mid len at room past is = same_number_lists _ _ (grind (arith, places)) (λ k below. grind (arith, places))

pub padded_back : (held mid : List ℕ) (len at : ℕ) → at ≤ length held → len < at
    → mid ≡ take len held ++ replicate (at - len) 0 ++ drop at held → drop at mid ≡ drop at held
padded_back held mid len at room past is = same_number_lists _ _ (grind (arith, places)) (λ k below. grind (arith, places))

cut_back : (held : List ℕ) (len end : ℕ) → len ≤ length held → end ≤ length held
    → take (max len end - end) (drop end held) ≡ drop end (take len held)
cut_back held len end within room = same_number_lists _ _ (grind (arith, places)) (λ k below. grind (arith, places))

-- a front, and a part of the rest
front_of : (front back : List ℕ) (size count : ℕ) → length front ≡ size → size ≤ count
    → take count (front ++ back) ≡ front ++ take (count - size) back
front_of front back size count is enough = same_number_lists _ _ (grind (arith, places)) (λ k below. grind (arith, places))

-- once the place before it is padded with zeros, a write in place is the file overlaid
pub written : (held mid piece new : List ℕ) (len at : ℕ) → len ≤ length held → at + length piece ≤ length held
    → take at mid ≡ take at (take len held) ++ replicate (at - len) 0 → drop at mid ≡ drop at held
    → new ≡ take at mid ++ piece ++ drop (at + length piece) mid
    → take (max len (at + length piece)) new ≡ overlaid at piece (take len held)
written held mid piece new len at within room front back is =
    let end = at + length piece in
    let size : length (take len held) ≡ len = omega (arith, length-take len held) in
    let start : length (take at mid ++ piece) ≡ end =
    omega (arith, length-append (take at mid) piece, ap length front, length-take at (take len held), length-append (take at (take len held)) (replicate (at - len) 0), size, length-replicate {A = ℕ} (at - len)) in
    let behind : drop end mid ≡ drop end held =
    sym (drop-drop (length piece) at mid) ∙ ap (λ (l : List ℕ). drop (length piece) l) back ∙ drop-drop (length piece) at held in
    ap (λ (l : List ℕ). take (max len end) l) (is ∙ ap (λ (l : List ℕ). take at mid ++ piece ++ l) behind)
    ∙ front_of (take at mid ++ piece) (drop end held) end (max len end) start (omega arith)
    ∙ ap (λ (l : List ℕ). take at mid ++ piece ++ l) (cut_back held len end within room)
    ∙ ap (λ (l : List ℕ). l ++ piece ++ drop end (take len held)) (front ∙ ap (λ (n : ℕ). take at (take len held) ++ replicate (at - n) 0) (sym size))

-- the same for a range that is filled
pub spoiled : (held mid new : List ℕ) (len at count byte : ℕ) → len ≤ length held → at + count ≤ length held
    → take at mid ≡ take at (take len held) ++ replicate (at - len) 0 → drop at mid ≡ drop at held
    → new ≡ take at mid ++ replicate (at + count - at) byte ++ drop (at + count) mid
    → take (max len (at + count)) new ≡ overlaid at (replicate count byte) (take len held)
spoiled held mid new len at count byte within room front back is =
    let size : length (replicate count byte) ≡ count = length-replicate count byte in
    let same : at + count - at ≡ count = omega arith in
    let filled : new ≡ take at mid ++ replicate count byte ++ drop (at + length (replicate count byte)) mid =
    is ∙ ap (λ (n : ℕ). take at mid ++ replicate n byte ++ drop (at + count) mid) same
    ∙ ap (λ (n : ℕ). take at mid ++ replicate count byte ++ drop (at + n) mid) (sym size) in
    ap (λ (n : ℕ). take (max len (at + n)) new) (sym size)
    ∙ written held mid (replicate count byte) new len at within (omega (arith, size)) front back filled
