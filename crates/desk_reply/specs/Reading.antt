-- How a client takes a reply apart, and what it finds: definitions for laws.
use Rattle.std.specs.Prelude.{ℕ, List, [], ◌∷◌, length, take, drop, nat_eq, codes}
use Rattle.std.specs.Prelude.{Bool, true, ◌&&◌, if◌then◌else◌}
use Rattle.std.specs.Char.{is_ascii_digit}
use Rattle.std.specs.Cmp.Lexicographic.{slice_cmp}
use Rattle.std.specs.List.{starts_with, prefix_len}
use Rattle.std.specs.Ordering.{nat_cmp, is_lt}
use Rattle.std.specs.Str.Parse.{digits_value}
use Rattle.json.specs.Json.{Json, null, boolean, number, string, array, object}
use Rattle.json.specs.Json.{Items, no_items, item, Members, no_members, member}

-- what stands behind the first place that has the mark
abbrev pub behind : List ℕ → List ℕ → List ℕ
behind mark [] = []
behind mark (byte ∷ bytes) =
    if starts_with nat_eq (byte ∷ bytes) mark then drop (length mark) (byte ∷ bytes)
    else behind mark bytes

-- what stands behind the first empty line
abbrev pub body_of : List ℕ → List ℕ
body_of text = behind (codes "\r\n\r\n") text

-- the number that digits at the front write
abbrev pub first_number : List ℕ → ℕ
first_number bytes = digits_value 10 (take (prefix_len is_ascii_digit bytes) bytes)

-- what the first Content-Length header says
abbrev pub said_length : List ℕ → ℕ
said_length text = first_number (behind (codes "Content-Length: ") text)

-- the key is less than the first one of these members
abbrev pub is_below : List ℕ → Members → Bool
is_below key no_members = true
is_below key (member first value others) = is_lt (slice_cmp nat_cmp key first)

-- the keys of each object ascend by their bytes
abbrev mutual
  pub keys_ascend : Json → Bool
  keys_ascend null = true
  keys_ascend (boolean flag) = true
  keys_ascend (number digits) = true
  keys_ascend (string text) = true
  keys_ascend (array items) = items_ascend items
  keys_ascend (object members) = members_ascend members

  pub items_ascend : Items → Bool
  items_ascend no_items = true
  items_ascend (item value values) = keys_ascend value && items_ascend values

  pub members_ascend : Members → Bool
  members_ascend no_members = true
  members_ascend (member key value members) =
      is_below key members && (keys_ascend value && members_ascend members)
