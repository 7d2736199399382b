-- A block that is made where its payload stands: the zeros, the head and the digest are written.
use Rattle.std.proofs.Common.{◌≡◌, ℕ, ◌+◌, ◌-◌, ◌≤◌, List, [], ◌++◌, length, take, drop, replicate, refl, sym, ap, ◌∙◌, append_assoc, arith}
use Rattle.std.proofs.lemmas.List.{append-nil, length-append, take_rest, take_at, drop_at, drop-drop, drop-append-le, drop-take, drop_all, length-take, length-take-le, length-drop}
use Rattle.volume_block.specs.Layout.{head_text, with_digest, block_text}
use Rattle.volume_block.proofs.Lengths.{length-head_text}
use borrow.Rule.Slice.PartMut.{put_mid}

-- what stands behind the first `skip` bytes once all behind `used` more are zeros
padded : (skip used size : ℕ) (old zeros : List ℕ) → length old ≡ skip + size → used ≤ size
    → zeros ≡ replicate (length (take (length old - (skip + used)) (drop (skip + used) old))) 0
    → drop skip (put_mid (skip + used) (length old - (skip + used)) old zeros) ≡ take used (drop skip old) ++ replicate (size - used) 0
padded skip used size old zeros whole fits filled =
    let count : length (take (length old - (skip + used)) (drop (skip + used) old)) ≡ size - used =
    omega (arith, length-take (length old - (skip + used)) (drop (skip + used) old), length-drop (skip + used) old) in
    let none : drop (length old - (skip + used)) (drop (skip + used) old) ≡ [] =
    drop_all (length old - (skip + used)) (drop (skip + used) old) (omega (arith, length-drop (skip + used) old)) in
    let tail : zeros ++ drop (length old - (skip + used)) (drop (skip + used) old) ≡ replicate (size - used) 0 =
    ap (λ (t : List ℕ). zeros ++ t) none ∙ append-nil zeros ∙ filled ∙ ap (λ (n : ℕ). replicate n 0) count in
    drop-append-le skip (take (skip + used) old) (zeros ++ drop (length old - (skip + used)) (drop (skip + used) old))
    (omega (arith, length-take (skip + used) old))
    ∙ ap (λ (t : List ℕ). drop skip (take (skip + used) old) ++ t) tail
    ∙ ap (λ (t : List ℕ). t ++ replicate (size - used) 0) (drop-take skip used old)

-- a head, the digest and a padded payload are a block
pub block_is : (kind units size volid number used : ℕ) (payload rest : List ℕ) → length payload ≡ used
    → rest ≡ payload ++ replicate (size - 56 - used) 0
    → with_digest (head_text kind units used volid number) rest ≡ block_text kind units size volid number payload
unfolding block_text
block_is kind units size volid number used payload rest count padding = rw (padding, ← count) refl

-- a front of `size` bytes, in place of so many
behind_front : (front old : List ℕ) (size skip : ℕ) → length front ≡ size → drop (size + skip) (front ++ drop size old) ≡ drop (size + skip) old
behind_front front old size skip count =
    sym (drop-drop skip size (front ++ drop size old))
    ∙ ap (λ (t : List ℕ). drop skip t) (drop_at front (drop size old) size count)
    ∙ drop-drop skip size old

pub sealed : (kind units volid number used : ℕ) (old zeros headed whole : List ℕ) → 56 + used ≤ length old
    → zeros ≡ replicate (length (take (length old - (56 + used)) (drop (56 + used) old))) 0
    → headed ≡ head_text kind units used volid number ++ drop 24 (put_mid (56 + used) (length old - (56 + used)) old zeros)
    → whole ≡ with_digest (take 24 headed) (drop 56 headed)
    → whole ≡ block_text kind units (length old) volid number (take used (drop 56 old))
sealed kind units volid number used old zeros headed whole fits filled heading ending =
    let head = head_text kind units used volid number in
    let blank = put_mid (56 + used) (length old - (56 + used)) old zeros in
    let front : take 24 headed ≡ head = ap (take 24) heading ∙ take_at head (drop 24 blank) 24 (length-head_text kind units used volid number) in
    let back : drop 56 headed ≡ take used (drop 56 old) ++ replicate (length old - 56 - used) 0 =
    ap (drop 56) heading
    ∙ behind_front head blank 24 32 (length-head_text kind units used volid number)
    ∙ padded 56 used (length old - 56) old zeros (omega arith) (omega arith) filled in
    let count : length (take used (drop 56 old)) ≡ used = omega (arith, length-take used (drop 56 old), length-drop 56 old) in
    ending
    ∙ ap (λ (t : List ℕ). with_digest t (drop 56 headed)) front
    ∙ block_is kind units (length old) volid number used (take used (drop 56 old)) (drop 56 headed) count back

-- the front of what was written from byte `skip` on
pub written : (skip size : ℕ) (old new payload rest : List ℕ) → skip ≤ length old → length payload ≡ size → new ≡ payload ++ rest
    → take size (drop skip (put_mid skip (length old - skip) old new)) ≡ payload
written skip size old new payload rest fits count is =
    let behind = drop (length old - skip) (drop skip old) in
    ap (take size) (drop_at (take skip old) (new ++ behind) skip (length-take-le skip old fits))
    ∙ ap (λ (t : List ℕ). take size (t ++ behind)) is
    ∙ ap (take size) (append_assoc payload rest behind)
    ∙ take_at payload (rest ++ behind) size count

-- what is written over the bytes from a place on leaves their count
pub length-put : (skip : ℕ) (old new : List ℕ) → skip ≤ length old → length new ≡ length old - skip
    → length (put_mid skip (length old - skip) old new) ≡ length old
length-put skip old new fits count =
    let behind = drop (length old - skip) (drop skip old) in
    length-append (take skip old) (new ++ behind)
    ∙ omega (arith, length-append new behind, length-take-le skip old fits, count, length-drop (length old - skip) (drop skip old), length-drop skip old)

-- a text that is put behind a front
pub placed : (size count : ℕ) (old front text new : List ℕ) → length front ≡ size → length text ≡ count
    → new ≡ front ++ drop size old → put_mid size (size + count - size) new text ≡ (front ++ text) ++ drop (size + count) old
placed size count old front text new first second is =
    let before : take size new ≡ front = ap (take size) is ∙ take_at front (drop size old) size first in
    let count-is : size + count - size ≡ count = omega arith in
    let after : drop (size + count - size) (drop size new) ≡ drop (size + count) old =
    ap (λ (n : ℕ). drop n (drop size new)) count-is
    ∙ ap (λ (t : List ℕ). drop count (drop size t)) is
    ∙ ap (drop count) (drop_at front (drop size old) size first)
    ∙ drop-drop count size old in
    ap (λ (t : List ℕ). t ++ (text ++ drop (size + count - size) (drop size new))) before
    ∙ ap (λ (t : List ℕ). front ++ (text ++ t)) after
    ∙ sym (append_assoc front text (drop (size + count) old))

-- a text that is written behind a front
pub placed_behind : (size count : ℕ) (old front text new written : List ℕ) → length front ≡ size → size ≤ length old
    → new ≡ front ++ drop size old → written ≡ text ++ drop count (take (length new - size) (drop size new))
    → put_mid size (length new - size) new written ≡ (front ++ text) ++ drop (size + count) old
placed_behind size count old front text new written first fits is writing =
    let long : length new ≡ length old = ap length is ∙ length-append front (drop size old) ∙ omega (arith, first, length-drop size old) in
    let before : take size new ≡ front = ap (take size) is ∙ take_at front (drop size old) size first in
    let behind : drop size new ≡ drop size old = ap (drop size) is ∙ drop_at front (drop size old) size first in
    let none : drop (length new - size) (drop size new) ≡ [] =
    drop_all (length new - size) (drop size new) (omega (arith, length-drop size new)) in
    let text-is : written ≡ text ++ drop (size + count) old =
    writing ∙ ap (λ (t : List ℕ). text ++ drop count t) (take_rest new size ∙ behind) ∙ ap (λ (t : List ℕ). text ++ t) (drop-drop count size old) in
    ap (λ (t : List ℕ). t ++ (written ++ drop (length new - size) (drop size new))) before
    ∙ ap (λ (t : List ℕ). front ++ (written ++ t)) none
    ∙ ap (λ (t : List ℕ). front ++ t) (append-nil written ∙ text-is)
    ∙ sym (append_assoc front text (drop (size + count) old))
