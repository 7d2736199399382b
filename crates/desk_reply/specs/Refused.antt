-- Refusals as values of JSON, and their status.
use Rattle.std.specs.Prelude.{ℕ, List, [], ◌∷◌, map, codes, ◌==◌, ◌||◌, if◌then◌else◌}
use Rattle.std.specs.Ordering.{nat_cmp, is_gt}
use Rattle.std.specs.Cmp.Lexicographic.{slice_cmp}
use Rattle.hex.specs.Hex.{encode_lower}
use Rattle.json.specs.Json.{Json, string}
use Rattle.room_base.specs.declared.refusal.Refusal.{Refusal}
use Rattle.room_base.specs.Refusals.{Value, OfNumber, OfText, OfDigest, OfSsids, NamedValue}
use Rattle.room_base.specs.Refusals.{refusal_number, refusal_name, refusal_fields}
use Rattle.desk_reply.specs.Answers.{ssid_json}
use Rattle.desk_reply.specs.Values.{whole, json_list, json_object}

-- the status of a reply by the number of its refusal
abbrev pub status_of_number : ℕ → ℕ
status_of_number number =
    if number == 1 then 400 else (
    if (number == 2) || (number == 9) || (number == 28) then 404 else (
    if (number == 25) || (number == 26) then 410 else (
    if number == 11 then 413 else (
    if number == 24 then 500 else (
    if (number == 30) || (number == 31) || (number == 32) then 503 else 409)))))

-- a digest as 64 digits, sessions as a list of numbers
abbrev pub field_json : Value → Json
field_json (OfNumber count) = whole count
field_json (OfText text) = string text
field_json (OfDigest digest) = string (encode_lower digest)
field_json (OfSsids ssids) = json_list ssid_json ssids

abbrev pub field_member : NamedValue → List ℕ × Json
field_member field = (field.name, field_json field.value)

-- a member put before the first one whose key is greater
abbrev pub put_member : List ℕ × Json → List (List ℕ × Json) → List (List ℕ × Json)
put_member member [] = member ∷ []
put_member member (first ∷ others) =
    if is_gt (slice_cmp nat_cmp first.0 member.0) then member ∷ (first ∷ others)
    else first ∷ put_member member others

abbrev pub put_members : List (List ℕ × Json) → List (List ℕ × Json) → List (List ℕ × Json)
put_members [] members = members
put_members (first ∷ others) members = put_member first (put_members others members)

-- the number and the name, which each refusal has
abbrev pub title_members : Refusal → List (List ℕ × Json)
title_members refusal =
    (codes "no", whole (refusal_number refusal))
    ∷ (codes "refusal", string (refusal_name refusal))
    ∷ []

-- its number, its name and its fields, in the order of their keys
abbrev pub refusal_members : Refusal → List (List ℕ × Json)
refusal_members refusal =
    put_members (map field_member (refusal_fields refusal)) (title_members refusal)

abbrev pub refusal_json : Refusal → Json
refusal_json refusal = json_object (refusal_members refusal)
