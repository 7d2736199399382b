-- A file that is read in pieces: what was handed out, and what is ahead.
use Rattle.std.proofs.Common.{◌≡◌, ℕ, ◌+◌, ◌-◌, ◌<◌, ◌≤◌, List, [], ◌++◌, length, take, drop, min, sym, ap, ◌∙◌, append_assoc, arith, subst, Bool, true, false, Option}
use Rattle.std.proofs.lemmas.List.{places, length-take, length-drop, length-append, take-append-drop, drop-drop, nil_from_length, take_all}
use Rattle.std.proofs.lemmas.Grind.{same_number_lists}
use Rattle.cat_journal.specs.Reads.{PiecesView, ahead, IsOf, ReadsPart, ReadsOn, HandsOut, Fills, TakesBytes}

abbrev pub of_pieces : ℕ → ℕ → ℕ → List ℕ → PiecesView
of_pieces file next end unread = record { file = file; next = next; end = end; unread = unread }

-- what is left of a piece
pub left_of : (piece : List ℕ) (from to count : ℕ) → count ≤ to - from
    → take (to - (from + count)) (drop (from + count) piece) ≡ drop count (take (to - from) (drop from piece))
left_of piece from to count within = same_number_lists _ _ (grind (arith, places)) (λ k below. grind (arith, places))

-- a piece is read where nothing is left of the one before
pub reads_on : (bytes piece : List ℕ) (old : PiecesView) (room count : ℕ) → old.unread ≡ [] → IsOf old bytes → 0 < room → old.next ≤ old.end
    → ReadsPart bytes old.next (min (old.end - old.next) room) piece count
    → ReadsOn bytes old (of_pieces old.file (old.next + count) old.end (take count piece))
reads_on bytes piece old room count none is some within read =
    let behind = drop old.next bytes in
    let before : ahead old bytes ≡ behind = ap (λ (t : List ℕ). t ++ behind) none in
    record {
      same = ap (λ (t : List ℕ). t ++ drop (old.next + count) bytes) read.given
          ∙ ap (λ (t : List ℕ). take count behind ++ t) (sym (drop-drop count old.next bytes))
          ∙ take-append-drop count behind ∙ sym before;
      ended = λ no. (let size : length (take count behind) ≡ 0 = ap length (sym read.given ∙ no) in
          before ∙ nil_from_length behind (omega (arith, size, length-take count behind, length-drop old.next bytes, read.all, is, some, within)));
    }

-- some of it is handed out
pub hands_out : (bytes into given : List ℕ) (before mid after : PiecesView) (count : ℕ) → ReadsOn bytes before mid
    → count ≡ min (length into) (length mid.unread) → length given ≡ length into → take count given ≡ take count mid.unread
    → after ≡ of_pieces mid.file mid.next mid.end (drop count mid.unread)
    → HandsOut (ahead before bytes) (ahead after bytes) given count
hands_out bytes into given before mid after count reads is size front left =
    let behind = drop mid.next bytes in
    record {
      given = ap (λ (p : PiecesView). take count given ++ ahead p bytes) left
          ∙ ap (λ (t : List ℕ). t ++ (drop count mid.unread ++ behind)) front
          ∙ sym (append_assoc (take count mid.unread) (drop count mid.unread) behind)
          ∙ ap (λ (t : List ℕ). t ++ behind) (take-append-drop count mid.unread) ∙ reads.same;
      ended = λ room none. reads.ended (nil_from_length mid.unread (omega (arith, is, size, room, none)));
    }

-- the front of a list into which a part was put
front_put : (front new : List ℕ) (done count : ℕ) → length front ≡ done → count ≤ length new
    → take (done + count) (front ++ new) ≡ front ++ take count new
front_put front new done count whole within = same_number_lists _ _ (grind (arith, places)) (λ k below. grind (arith, places))

-- more of it is handed out, behind what was
pub handed_more : (front new before mid after : List ℕ) (done count : ℕ) → length front ≡ done → count ≤ length new
    → front ++ mid ≡ before → HandsOut mid after new count → take (done + count) (front ++ new) ++ after ≡ before
handed_more front new before mid after done count whole within so_far hands =
    ap (λ (t : List ℕ). t ++ after) (front_put front new done count whole within)
    ∙ append_assoc front (take count new) after
    ∙ ap (λ (t : List ℕ). front ++ t) hands.given ∙ so_far

-- all of it
pub handed_all : (into before after : List ℕ) (done : ℕ) → done ≡ length into → take done into ++ after ≡ before → Fills before after into true
handed_all into before after done all is = sym is ∙ ap (λ (t : List ℕ). t ++ after) (take_all done into (omega (arith, all)))

-- none is left, and some was wanted
pub handed_short : (into new before mid after : List ℕ) (done size : ℕ) → done < length into → length new ≡ length into → length new - done ≡ size
    → take done into ++ mid ≡ before → mid ≡ [] → Fills before after new false
handed_short into new before mid after done size inside same rest so_far none =
    omega (arith, inside, same, ap length so_far, length-append (take done into) mid, length-take done into, ap length none)

-- the room was filled from the same bytes, as they read there
pub fills_at : (bytes reads : List ℕ) (before after : PiecesView) (into : List ℕ) (whole : Bool) → reads ≡ bytes → IsOf before bytes
    → (IsOf before reads → Fills (ahead before reads) (ahead after reads) into whole) → Fills (ahead before bytes) (ahead after bytes) into whole
fills_at bytes reads before after into whole same is fills =
    subst (λ (t : List ℕ). Fills (ahead before t) (ahead after t) into whole) same (fills (is ∙ ap length (sym same)))

pub takes_at : (bytes reads : List ℕ) (before after : PiecesView) (size : ℕ) (found : Option (List ℕ)) → reads ≡ bytes → IsOf before bytes
    → (IsOf before reads → TakesBytes size (ahead before reads) (ahead after reads) found) → TakesBytes size (ahead before bytes) (ahead after bytes) found
takes_at bytes reads before after size found same is takes =
    subst (λ (t : List ℕ). TakesBytes size (ahead before t) (ahead after t) found) same (takes (is ∙ ap length (sym same)))
