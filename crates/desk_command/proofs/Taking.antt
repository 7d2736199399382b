-- The parts of a target, by the parameters of its place.
use Rattle.std.proofs.Common.{◌≡◌, ℕ, List, [], ◌∷◌, codes, refl, sym, ap, ◌∙◌, subst, true, ◌&&◌, ltb, ◌<◌, suc, get_or, Fits, w8, Some, arith}
use Rattle.std.specs.List.{list_all}
use Rattle.std.proofs.lemmas.Bool.{and_parts, and_from}
use Rattle.std.specs.Str.{IsUtf8}
use Rattle.matchit.specs.Router.{RouteOf}
use Rattle.matchit.specs.Seek.{first}
use Rattle.matchit.specs.Params.{AllText, named, walk}
use Rattle.matchit.specs.declared.params.Params.{Params}
use Rattle.desk_command.specs.Places.{all_rows, Any, Matches, Piece, Word, names_of, pattern_of, shape_of, text_of}
use Rattle.desk_command.specs.Routes.{is_part, target_of}
use Rattle.desk_command.specs.Targets.{IsAt, IsMadeOf, or_empty}
use Rattle.desk_command.specs.declared.place.Place.{Place}
use Rattle.desk_command.specs.declared.place.Place.TheVariants as places
use Rattle.desk_command.proofs.Leading.{all_shapes, leads}
use Rattle.desk_command.proofs.Seeking.{AreBytes}
use Rattle.desk_command.proofs.Parameters.{walk_place, walk_text, walked_of}
use Rattle.desk_command.proofs.Shapes.{is_shape, is_word}

abbrev Walk : Params → List (List ℕ × List ℕ)
Walk params = walk params.pattern.now params.text.now params.path.now params.names.now 0 0

walk_at : (place : Place) (parts : List (List ℕ)) (params : Params) → IsAt place parts params → Walk params ≡ walked_of place parts
walk_at place parts params at = rw (at.pattern_is, at.text_is, at.names_are, at.path_is) (walk_place place parts at.matches)

pub part_at : (place : Place) (parts : List (List ℕ)) (params : Params) (key got : List ℕ) → IsAt place parts params
    → (AllText (Walk params) → got ≡ or_empty (named key (Walk params))) → got ≡ or_empty (named key (walked_of place parts))
part_at place parts params key got at is =
    let same = walk_at place parts params at in
    is (subst AllText (sym same) (walk_text place parts at.utf8)) ∙ ap (λ all. or_empty (named key all)) same

-- the parts of a shape are parts
pub shape_parts : (shape : List Piece) (parts : List (List ℕ)) → is_shape shape ≡ true → Matches shape parts → list_all is_part parts ≡ true
shape_parts [] [] good m = refl
shape_parts [] (part ∷ parts) good m = absurd m
shape_parts (piece ∷ shape) [] good m = absurd m
shape_parts (Word word ∷ shape) (part ∷ parts) good m =
    let word_good = and_parts (is_word word) (is_shape shape) good in
    let is = and_parts (is_part word) (list_all (λ byte. ltb byte 256) word) word_good.0 in
    and_from (is_part part) (list_all is_part parts) (ap is_part m.0 ∙ is.0) (shape_parts shape parts word_good.1 m.1)
shape_parts (Any ∷ shape) (part ∷ parts) good m = and_from (is_part part) (list_all is_part parts) m.0 (shape_parts shape parts good m.1)

pub slot_is : (parts : List (List ℕ)) (got : List ℕ) → Matches (shape_of places.Slot) parts → got ≡ or_empty (named (codes "slot") (walked_of places.Slot parts))
    → codes "slots" ∷ got ∷ [] ≡ parts
slot_is [] got m is = absurd m
slot_is (a ∷ []) got m is = absurd m.1
slot_is (a ∷ b ∷ []) got m is = rw (m.0, is) refl
slot_is (a ∷ b ∷ d ∷ more) got m is = absurd m.1.1

pub savegrp_is : (parts : List (List ℕ)) (got : List ℕ) → Matches (shape_of places.Savegrp) parts → got ≡ or_empty (named (codes "group") (walked_of places.Savegrp parts))
    → codes "savegrp" ∷ got ∷ [] ≡ parts
savegrp_is [] got m is = absurd m
savegrp_is (a ∷ []) got m is = absurd m.1
savegrp_is (a ∷ b ∷ []) got m is = rw (m.0, is) refl
savegrp_is (a ∷ b ∷ d ∷ more) got m is = absurd m.1.1

pub set_is : (parts : List (List ℕ)) (got : List ℕ) → Matches (shape_of places.Set) parts → got ≡ or_empty (named (codes "ssid") (walked_of places.Set parts))
    → codes "sets" ∷ got ∷ [] ≡ parts
set_is [] got m is = absurd m
set_is (a ∷ []) got m is = absurd m.1
set_is (a ∷ b ∷ []) got m is = rw (m.0, is) refl
set_is (a ∷ b ∷ d ∷ more) got m is = absurd m.1.1

pub finish_is : (parts : List (List ℕ)) (got : List ℕ) → Matches (shape_of places.Finish) parts → got ≡ or_empty (named (codes "ssid") (walked_of places.Finish parts))
    → codes "sets" ∷ got ∷ codes "finish" ∷ [] ≡ parts
finish_is [] got m is = absurd m
finish_is (a ∷ []) got m is = absurd m.1
finish_is (a ∷ b ∷ []) got m is = absurd m.1.1
finish_is (a ∷ b ∷ d ∷ []) got m is = rw (m.0, m.1.1.0, is) refl
finish_is (a ∷ b ∷ d ∷ e ∷ more) got m is = absurd m.1.1.1

pub abort_is : (parts : List (List ℕ)) (got : List ℕ) → Matches (shape_of places.Abort) parts → got ≡ or_empty (named (codes "ssid") (walked_of places.Abort parts))
    → codes "sets" ∷ got ∷ codes "abort" ∷ [] ≡ parts
abort_is [] got m is = absurd m
abort_is (a ∷ []) got m is = absurd m.1
abort_is (a ∷ b ∷ []) got m is = absurd m.1.1
abort_is (a ∷ b ∷ d ∷ []) got m is = rw (m.0, m.1.1.0, is) refl
abort_is (a ∷ b ∷ d ∷ e ∷ more) got m is = absurd m.1.1.1

pub amend_is : (parts : List (List ℕ)) (got : List ℕ) → Matches (shape_of places.Amend) parts → got ≡ or_empty (named (codes "ssid") (walked_of places.Amend parts))
    → codes "sets" ∷ got ∷ codes "amend" ∷ [] ≡ parts
amend_is [] got m is = absurd m
amend_is (a ∷ []) got m is = absurd m.1
amend_is (a ∷ b ∷ []) got m is = absurd m.1.1
amend_is (a ∷ b ∷ d ∷ []) got m is = rw (m.0, m.1.1.0, is) refl
amend_is (a ∷ b ∷ d ∷ e ∷ more) got m is = absurd m.1.1.1

pub resource_is : (parts : List (List ℕ)) (got other : List ℕ) → Matches (shape_of places.Resource) parts
    → got ≡ or_empty (named (codes "kind") (walked_of places.Resource parts))
    → other ≡ or_empty (named (codes "name") (walked_of places.Resource parts)) → codes "resources" ∷ got ∷ other ∷ [] ≡ parts
resource_is [] got other m is too = absurd m
resource_is (a ∷ []) got other m is too = absurd m.1
resource_is (a ∷ b ∷ []) got other m is too = absurd m.1.1
resource_is (a ∷ b ∷ d ∷ []) got other m is too = rw (m.0, is, too) refl
resource_is (a ∷ b ∷ d ∷ e ∷ more) got other m is too = absurd m.1.1.1

pub body_is : (parts : List (List ℕ)) (got other : List ℕ) → Matches (shape_of places.Body) parts
    → got ≡ or_empty (named (codes "ssid") (walked_of places.Body parts))
    → other ≡ or_empty (named (codes "offset") (walked_of places.Body parts)) → codes "sets" ∷ got ∷ codes "body" ∷ other ∷ [] ≡ parts
body_is [] got other m is too = absurd m
body_is (a ∷ []) got other m is too = absurd m.1
body_is (a ∷ b ∷ []) got other m is too = absurd m.1.1
body_is (a ∷ b ∷ d ∷ []) got other m is too = absurd m.1.1.1
body_is (a ∷ b ∷ d ∷ e ∷ []) got other m is too = rw (m.0, m.1.1.0, is, too) refl
body_is (a ∷ b ∷ d ∷ e ∷ f ∷ more) got other m is too = absurd m.1.1.1.1

are_bytes : (text : List ℕ) → ((i : ℕ) → Fits w8 (get_or text i 0)) → AreBytes text
are_bytes [] h = tt
are_bytes (b ∷ text) h = (omega (arith, h 0), are_bytes text (λ i. h (suc i)))

-- the parts that a target was taken apart into
pub made_of : (place : Place) (params : Params) (target : List ℕ) (found : List (List ℕ)) → IsUtf8 target → ((i : ℕ) → Fits w8 (get_or target i 0))
    → first all_rows target ≡ Some (record {
      pattern = params.pattern.now;
      text = params.text.now;
      names = params.names.now;
      value = place;
    }) → params.path.now ≡ target → ((parts : List (List ℕ)) → IsAt place parts params → found ≡ parts) → IsMadeOf target found
made_of place params target found text bytes is path taken =
    let row : RouteOf Place = record { pattern = params.pattern.now; text = params.text.now; names = params.names.now; value = place } in
    let led = leads target row (are_bytes target bytes) is in
    let at : IsAt place led.0.parts params = record {
      pattern_is = ap (λ r. r.pattern) led.1;
      text_is = ap (λ r. r.text) led.1;
      names_are = ap (λ r. r.names) led.1;
      path_is = path ∙ led.0.is;
      matches = led.0.matches;
      utf8 = subst IsUtf8 led.0.is text;
    } in
    let same = taken led.0.parts at in
    record {
      is = led.0.is ∙ ap target_of (sym same);
      are_parts = subst (λ (p : List (List ℕ)). list_all is_part p ≡ true) (sym same)
          (shape_parts (shape_of place) led.0.parts (all_shapes place) led.0.matches);
    }
