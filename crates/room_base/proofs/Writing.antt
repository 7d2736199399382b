-- A text that is written by one call after another.
use Rattle.std.proofs.Common.{◌≡◌, ◌≤◌, ◌<◌, ℕ, ◌+◌, List, [], ◌∷◌, ◌++◌, length, take, drop, min, get_or, IsTrue, Result, Ok, Err, refl, subst, ap, sym, ◌∙◌, arith, append-nil, take-append-drop}
use Rattle.std.specs.List.{flat_map}
use Rattle.std.proofs.lemmas.List.{append_assoc, take_min, take-append-le, take_more}
use Rattle.std.proofs.lemmas.Grind.{flat_map-append}
use Rattle.std.proofs.Math.Seq.{take-add, take-append-add}
use Rattle.room_base.specs.Faults.{HasCause}
use Rattle.room_base.specs.Outside.{SinkView, AddsFront, Writes, WritesText}
use Rattle.room_base.specs.declared.fault.Failed.{Failed}

-- a front of the piece, and then a front of its rest
pub more_written : (start mid new piece : List ℕ) (done count : ℕ) → mid ≡ start ++ take done piece
    → new ≡ mid ++ take count (drop done piece) → new ≡ start ++ take (done + count) piece
more_written start mid new piece done count before after =
    after ∙ ap (λ w. w ++ take count (drop done piece)) before
    ∙ append_assoc start (take done piece) (take count (drop done piece))
    ∙ ap (λ w. start ++ w) (sym (take-add done count piece))

pub front_added : (start mid new piece : List ℕ) (done : ℕ) → mid ≡ start ++ take done piece
    → AddsFront mid new (drop done piece) → AddsFront start new piece
front_added start mid new piece done before added =
    (done + added.0, more_written start mid new piece done added.0 before added.1)

-- a front of the first text is a front of both
pub front_of_first : (old new one other : List ℕ) → AddsFront old new one → AddsFront old new (one ++ other)
front_of_first old new one other added =
    let count = min added.0 (length one) in
    (count, added.1 ∙ ap (λ (t : List ℕ). old ++ t) (sym (take_min added.0 one) ∙ sym (take-append-le count one other (omega arith))))

-- the first text and a front of the second
pub front_of_second : (old mid new one other : List ℕ) → mid ≡ old ++ one → AddsFront mid new other → AddsFront old new (one ++ other)
front_of_second old mid new one other whole added = (
  length one + added.0,
  added.1 ∙ ap (λ (t : List ℕ). t ++ take added.0 other) whole ∙ append_assoc old one (take added.0 other)
      ∙ ap (λ (t : List ℕ). old ++ t) (sym (take-append-add one other added.0)),
)

-- the second text behind the first
pub writes_then : {T : Type 0} (old mid new one other : List ℕ) (answer : Result T Failed) → mid ≡ old ++ one → Writes mid new other answer
    → Writes old new (one ++ other) answer
writes_then old mid new one other (Ok done) whole writes =
    writes ∙ ap (λ (t : List ℕ). t ++ other) whole ∙ append_assoc old one other
writes_then old mid new one other (Err fault) whole writes = front_of_second old mid new one other whole writes

cause_then : {T E : Type 0} (before between now : ℕ) (answer : Result T E) → before ≤ between → HasCause between now answer
    → HasCause before now answer
cause_then before between now (Ok done) later cause = record { later = omega (arith, later, cause.later); cause = cause.cause }
cause_then before between now (Err fault) later cause = record { later = omega (arith, later, cause.later); cause = omega (arith, later, cause.cause) }

-- one text behind another
pub text_then : {S T : Type 0} (one other : List ℕ) (old mid new : SinkView) (done : S) (answer : Result T Failed)
    → WritesText {T = S} one old mid (Ok done) → WritesText other mid new answer → WritesText (one ++ other) old new answer
text_then one other old mid new done answer first second = record {
  cause = cause_then old.faults mid.faults new.faults answer first.cause.later second.cause;
  tells = second.tells ∙ first.tells;
  written = λ told. (let told_mid : IsTrue mid.tells = rw first.tells told in
      writes_then old.written mid.written new.written one other answer (first.written told) (second.written told_mid));
}

-- a text whose first part failed
pub text_stopped : {S T : Type 0} (one other : List ℕ) (old new : SinkView) (fault other_fault : Failed)
    → WritesText {T = S} one old new (Err fault) → WritesText {T = T} (one ++ other) old new (Err other_fault)
text_stopped one other old new fault other_fault stopped = record {
  cause = record { later = stopped.cause.later; cause = stopped.cause.cause };
  tells = stopped.tells;
  written = λ told. front_of_first old.written new.written one other (stopped.written told);
}

-- nothing was written
pub text_none : (old : SinkView) → WritesText {T = Unit {0}} [] old old (Ok tt)
text_none old = record {
  cause = record { later = omega arith; cause = tt };
  tells = refl;
  written = λ told. sym (append-nil old.written);
}

-- the same text under another spelling
pub text_same : {T : Type 0} (one other : List ℕ) (old new : SinkView) (answer : Result T Failed) → one ≡ other
    → WritesText one old new answer → WritesText other old new answer
text_same one other old new answer same writes = subst (λ (text : List ℕ). WritesText text old new answer) same writes

-- the texts of the first items, and of the next
pub flat_map_more : {X : Type 0} (f : X → List ℕ) (xs : List X) (i : ℕ) (default : X) → i < length xs
    → flat_map f (take i xs) ++ f (get_or xs i default) ≡ flat_map f (take (i + 1) xs)
flat_map_more f xs i default below =
    let last = get_or xs i default in
    sym (ap (flat_map f) (take_more xs i default below) ∙ flat_map-append f (take i xs) (last ∷ [])
    ∙ ap (λ (y : List ℕ). flat_map f (take i xs) ++ y) (append-nil (f last)))

-- the texts of the first items, and of those behind them
pub flat_map_split : {X : Type 0} (f : X → List ℕ) (xs : List X) (n : ℕ)
    → flat_map f (take n xs) ++ flat_map f (drop n xs) ≡ flat_map f xs
flat_map_split f xs n = sym (flat_map-append f (take n xs) (drop n xs)) ∙ ap (flat_map f) (take-append-drop n xs)

-- one item more
pub next_item : {X : Type 0} (f : X → List ℕ) (xs : List X) (i : ℕ) (default : X) (old mid new : SinkView) → i < length xs
    → WritesText {T = Unit {0}} (flat_map f (take i xs)) old mid (Ok tt)
    → WritesText {T = Unit {0}} (f (get_or xs i default)) mid new (Ok tt)
    → WritesText {T = Unit {0}} (flat_map f (take (i + 1) xs)) old new (Ok tt)
next_item f xs i default old mid new below first second =
    text_same _ _ old new (Ok tt) (flat_map_more f xs i default below) (text_then _ _ old mid new tt (Ok tt) first second)

-- an item whose writing failed
pub item_failed : {X : Type 0} (f : X → List ℕ) (xs : List X) (i : ℕ) (default : X) (old mid new : SinkView) (fault other : Failed)
    → i < length xs → WritesText {T = Unit {0}} (flat_map f (take i xs)) old mid (Ok tt)
    → WritesText {T = Unit {0}} (f (get_or xs i default)) mid new (Err fault)
    → WritesText {T = Unit {0}} (flat_map f xs) old new (Err other)
item_failed f xs i default old mid new fault other below first failed =
    let front = text_then _ _ old mid new tt (Err fault) first failed in
    let same = text_same _ _ old new (Err fault) (flat_map_more f xs i default below) front in
    text_same _ _ old new (Err other) (flat_map_split f xs (i + 1))
    (text_stopped (flat_map f (take (i + 1) xs)) (flat_map f (drop (i + 1) xs)) old new fault other same)
