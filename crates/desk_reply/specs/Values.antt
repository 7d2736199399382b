-- Values of JSON as replies have them, and the text of one.
use Rattle.std.specs.Prelude.{ℕ, List, [], ◌∷◌, map}
use Rattle.std.specs.Fmt.{decimal}
use Rattle.json.specs.Json.{Json, number, array, object}
use Rattle.json.specs.Json.{Items, no_items, item, Members, no_members, member}
use Rattle.json.specs.Print.{print}
use Rattle.json.specs.Tree.{json_tokens}

-- the text of a value, with no space
abbrev pub json_text : Json → List ℕ
json_text value = print (json_tokens value)

-- a whole number
abbrev pub whole : ℕ → Json
whole count = number (decimal count)

abbrev pub items_of : List Json → Items
items_of [] = no_items
items_of (value ∷ values) = item value (items_of values)

-- a list of what each is as a value
abbrev pub json_list : {X : Type 0} → (X → Json) → List X → Json
json_list json list = array (items_of (map json list))

abbrev pub members_of : List (List ℕ × Json) → Members
members_of [] = no_members
members_of (one ∷ others) = member one.0 one.1 (members_of others)

-- an object of these keys and values
abbrev pub json_object : List (List ℕ × Json) → Json
json_object members = object (members_of members)
