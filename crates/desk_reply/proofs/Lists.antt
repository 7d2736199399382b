-- The tokens of lists and objects.
use Rattle.std.proofs.Common.{◌≡◌, ◌≤◌, ℕ, List, [], ◌∷◌, ◌++◌, map, take, length, Result, refl, ap, sym, ◌∙◌, append_assoc, take_all}
use Rattle.std.proofs.lemmas.List.Concat.{flat_map-append}
use Rattle.std.proofs.lemmas.Result.{on_ok_weaker}
use Rattle.std.specs.List.{flat_map}
use Rattle.json.specs.Json.{Json}
use Rattle.json.specs.Token.{Token, begin_array, end_array, begin_object, end_object}
use Rattle.json.specs.Tree.{json_tokens, items_tokens, members_tokens}
use Rattle.json.specs.Written.{Written, Writes}
use Rattle.desk_reply.specs.Values.{items_of, members_of, json_list, json_object}
use Rattle.desk_reply.specs.Writing.{Adds, list_tokens, member_tokens}

-- a list's tokens are those of its items, and the closing bracket
items_written : {X : Type 0} (json : X → Json) (list : List X)
    → items_tokens (items_of (map json list)) ≡ flat_map (λ x. json_tokens (json x)) list ++ end_array ∷ []
items_written json [] = refl
items_written json (x ∷ xs) =
    ap (λ (rest : List Token). json_tokens (json x) ++ rest) (items_written json xs)
    ∙ sym (append_assoc (json_tokens (json x)) (flat_map (λ y. json_tokens (json y)) xs) (end_array ∷ []))

-- an object's tokens are those of its members, and the closing brace
members_written : (members : List (List ℕ × Json))
    → members_tokens (members_of members) ≡ list_tokens members ++ end_object ∷ []
members_written [] = refl
members_written (first ∷ others) =
    ap (λ (rest : List Token). member_tokens first ++ rest) (members_written others)
    ∙ sym (append_assoc (member_tokens first) (list_tokens others) (end_object ∷ []))

-- what stands between two tokens is closed
closed : {E : Type 0} (result : Result (Unit {0}) E) (old mid new : Written) (open_ close : Token) (inner : List Token)
    → mid.tokens ≡ (old.tokens ++ open_ ∷ []) ++ inner → mid.before ≡ old.before
    → Writes result mid new close → Adds result old new (open_ ∷ (inner ++ close ∷ []))
closed result old mid new open_ close inner tokens before writes = on_ok_weaker result
    (λ (e : new.tokens ≡ mid.tokens ++ close ∷ []). (
      e ∙ ap (λ (list : List Token). list ++ close ∷ []) tokens
          ∙ append_assoc (old.tokens ++ open_ ∷ []) inner (close ∷ [])
          ∙ append_assoc old.tokens (open_ ∷ []) (inner ++ close ∷ []),
      writes.room.0 ∙ before,
    )) writes.ok

pub list_closed : {X E : Type 0} (json : X → Json) (list : List X) (count : ℕ) (result : Result (Unit {0}) E) (old mid new : Written)
    → length list ≤ count
    → mid.tokens ≡ (old.tokens ++ begin_array ∷ []) ++ flat_map (λ x. json_tokens (json x)) (take count list)
    → mid.before ≡ old.before → Writes result mid new end_array
    → Adds result old new (json_tokens (json_list json list))
list_closed json list count result old mid new whole tokens before writes =
    rw items_written (closed result old mid new begin_array end_array (flat_map (λ x. json_tokens (json x)) list)
    (tokens ∙ ap (λ (xs : List _). (old.tokens ++ begin_array ∷ []) ++ flat_map (λ x. json_tokens (json x)) xs) (take_all count list whole))
    before writes)

pub object_closed : {E : Type 0} (members : List (List ℕ × Json)) (result : Result (Unit {0}) E) (old mid new : Written)
    → mid.tokens ≡ (old.tokens ++ begin_object ∷ []) ++ list_tokens members
    → mid.before ≡ old.before → Writes result mid new end_object
    → Adds result old new (json_tokens (json_object members))
object_closed members result old mid new tokens before writes =
    rw members_written (closed result old mid new begin_object end_object (list_tokens members) tokens before writes)

-- members before one, that one, and those behind it
pub around : (first last : List (List ℕ × Json)) (one : List ℕ × Json) (start : List Token)
    → ((start ++ list_tokens first) ++ member_tokens one) ++ list_tokens last
    ≡ start ++ list_tokens (first ++ (one ∷ last))
around first last one start =
    append_assoc (start ++ list_tokens first) (member_tokens one) (list_tokens last)
    ∙ append_assoc start (list_tokens first) (member_tokens one ++ list_tokens last)
    ∙ ap (λ (list : List Token). start ++ list) (sym (flat_map-append member_tokens first (one ∷ last)))
