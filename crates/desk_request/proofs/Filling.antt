-- Bytes that are taken behind others.
use Rattle.std.proofs.Common.{◌≡◌, ℕ, ◌+◌, ◌-◌, ◌≤◌, ◌<◌, inl, inr, List, [], ◌++◌, length, take, drop, min, sym, ap, ◌∙◌, arith, append_assoc, append-nil, length-append, take-append-drop}
use Rattle.std.proofs.lemmas.Bool.{cases_lt}
use Rattle.std.proofs.lemmas.List.{length-drop, take_all, take-take, take-append-le, drop_all, nil_from_length}
use Rattle.std.proofs.Math.Seq.{take-append-add, take-append_seam, drop-nil}
use Rattle.room_base.specs.Outside.{SourceView, Moves}
use Rattle.desk_request.specs.Reading.{Took}

-- one take
pub took_of_moves : (old new : SourceView) (into : List ℕ) (count : ℕ) → Moves old new into count → Took old new (take count into)
took_of_moves old new into count moves = record {
  taken = moves.taken ∙ ap (λ bytes. old.taken ++ bytes) (sym moves.given);
  left =
      sym (take-append-drop count old.left) ∙ ap (λ bytes. bytes ++ drop count old.left) (sym moves.given)
      ∙ ap (λ bytes. take count into ++ bytes) (sym moves.left);
}

-- a take of nothing, where there was room
pub none_left : (old new : SourceView) (into : List ℕ) (count : ℕ) → Moves old new into count → count ≡ 0 → 0 < length into → new.left ≡ []
none_left old new into count moves none room =
    moves.left ∙ ap (drop count) (moves.ended room none) ∙ drop-nil count

-- one take behind another
pub took_then : (old mid new : SourceView) (one other : List ℕ) → Took old mid one → Took mid new other → Took old new (one ++ other)
took_then old mid new one other first second = record {
  taken = second.taken ∙ ap (λ bytes. bytes ++ other) first.taken ∙ append_assoc old.taken one other;
  left = first.left ∙ ap (λ bytes. one ++ bytes) second.left ∙ sym (append_assoc one other new.left);
}

-- a list that got room behind it, of which what was taken stays
pub piece_kept : (front into behind : List ℕ) (had count whole : ℕ) → length front ≡ had → count ≤ length into → had + count ≤ whole
    → take (had + count) (take whole ((front ++ into) ++ behind)) ≡ front ++ take count into
piece_kept front into behind had count whole is within room =
    take-take (had + count) whole ((front ++ into) ++ behind) room
    ∙ take-append-le (had + count) (front ++ into) behind (omega (arith, is, within, length-append front into))
    ∙ ap (λ n. take (n + count) (front ++ into)) (sym is) ∙ take-append-add front into count

-- a list with room behind it begins with what it had
pub room_front : (old room : List ℕ) (n : ℕ) → length old ≤ n → take (length old) (take n old ++ room) ≡ old
room_front old room n long = ap (λ bytes. take (length old) (bytes ++ room)) (take_all n old long) ∙ take-append_seam old room

-- a piece behind a list, of which what was taken stays
pub piece_added : (buffer resized front into behind after room : List ℕ) (had count size whole : ℕ) → had ≡ length buffer → had ≤ size
    → resized ≡ take size buffer ++ room → front ≡ take had resized → length front ≡ had → count ≤ length into → had + count ≤ whole
    → after ≡ take (had + count) (take whole ((front ++ into) ++ behind)) → after ≡ buffer ++ take count into
piece_added buffer resized front into behind after room had count size whole has wide resized_is front_is is within fits after_is =
    let same : front ≡ buffer =
    front_is ∙ ap (take had) resized_is ∙ ap (λ n. take n (take size buffer ++ room)) has ∙ room_front buffer room size (omega (arith, has, wide)) in
    after_is ∙ piece_kept front into behind had count whole is within fits ∙ ap (λ bytes. bytes ++ take count into) same

-- one take more into a list
pub filled_more : (first into front space more : List ℕ) (at count : ℕ) → length front ≡ at → front ≡ take at into
    → take at into ≡ first ++ more → take (at + count) (front ++ space) ≡ first ++ (more ++ take count space)
filled_more first into front space more at count is front_is filled =
    ap (λ n. take (n + count) (front ++ space)) (sym is) ∙ take-append-add front space count
    ∙ ap (λ bytes. bytes ++ take count space) (front_is ∙ filled) ∙ append_assoc first more (take count space)

-- a body is what was there of it and what was taken, and the rest stays
pub body_given : (there more body : List ℕ) (had count : ℕ) → had ≡ min (length there) count → length more ≡ count - had
    → body ≡ take had there ++ more → there ++ more ≡ body ++ drop had there
body_given there more body had count is enough body_is =
    let whole : body ++ drop had there ≡ take had there ++ (more ++ drop had there) =
    ap (λ bytes. bytes ++ drop had there) body_is ∙ append_assoc (take had there) more (drop had there) in
    elim (cases_lt had (length there)) [
      | inl over ↦
          let none : more ≡ [] = nil_from_length more (omega (arith, over, is, enough)) in
          ap (λ bytes. there ++ bytes) none ∙ append-nil there ∙ sym (take-append-drop had there)
          ∙ ap (λ bytes. take had there ++ (bytes ++ drop had there)) (sym none) ∙ sym whole
      | inr all ↦
          let rest : drop had there ≡ [] = drop_all had there all in
          ap (λ bytes. bytes ++ more) (sym (take_all had there all)) ∙ ap (λ bytes. take had there ++ bytes) (sym (append-nil more))
          ∙ ap (λ bytes. take had there ++ (more ++ bytes)) (sym rest) ∙ sym whole
    ]

-- a list whose items were written keeps all of them
pub written : (items behind : List ℕ) (len : ℕ) → length items ≡ len → take len (items ++ behind) ≡ items
written items behind len is = ap (λ n. take n (items ++ behind)) (sym is) ∙ take-append_seam items behind

-- what stands from a place on
pub from_place : (whole items : List ℕ) (at : ℕ) → whole ≡ items → take (length whole - at) (drop at whole) ≡ drop at items
from_place whole items at is = take_all (length whole - at) (drop at whole) (omega (arith, length-drop at whole)) ∙ ap (drop at) is
