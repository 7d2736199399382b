-- What a field of a JSON body stands for, and what a part of a target does.
use Rattle.std.specs.Prelude.{ℕ, ◌^◌, ◌-◌, Bool, ◌&&◌, ◌||◌, not, is_some, ◌==◌, nat_lt, nat_le, if◌then◌else◌}
use Rattle.std.specs.Prelude.{List, [], ◌∷◌, length, codes, Option, Some, None, Result, Ok, Err, option_map}
use Rattle.std.specs.Prelude.{position}
use Rattle.std.specs.Option.{option_and_then}
use Rattle.std.specs.List.{list_all}
use Rattle.std.specs.Char.{is_ascii_digit}
use Rattle.std.specs.Str.{is_utf8}
use Rattle.std.specs.Str.Parse.{digits_value}
use Rattle.hex.specs.Hex.{decode_sized}
use Rattle.serde_json.specs.Data.{Data}
use Rattle.serde_json.specs.Find.{as_bool, as_number, as_object, as_str, as_u64, get}
use Rattle.serde_json.specs.Read.{read}
use Rattle.desk_command.specs.Lines.{is}
use Rattle.desk_command.specs.Outcomes.{Outcome, or_malformed}

-- the greatest numbers of one, four and eight bytes
abbrev pub most_u8 : ℕ
most_u8 = 2 ^ 8 - 1

abbrev pub most_u32 : ℕ
most_u32 = 2 ^ 32 - 1

abbrev pub most_u64 : ℕ
most_u64 = 2 ^ 64 - 1

abbrev pub keep_if : {X : Type 0} → (X → Bool) → Option X → Option X
keep_if allowed None = None
keep_if allowed (Some x) = if allowed x then Some x else None

-- ---- texts

-- a byte that is no control character of ASCII
abbrev pub is_printable : ℕ → Bool
is_printable byte = nat_le 0x20 byte && not (byte == 0x7F)

-- a name: a text without control characters, of 1 to so many bytes
abbrev pub is_name_to : ℕ → List ℕ → Bool
is_name_to most text =
    nat_lt 0 (length text) && nat_le (length text) most && is_utf8 text && list_all is_printable text

-- a name of at most so many bytes that a text has to be
abbrev pub name_in : List ℕ → ℕ → List ℕ → Outcome (List ℕ)
name_in field most text = or_malformed field (keep_if (is_name_to most) (Some text))

-- the words of actions, from the one that stands for 0 on: the levels by their ranks, and `skip`
abbrev pub action_words : List (List ℕ)
action_words = codes "full" ∷ codes "1" ∷ codes "2" ∷ codes "3" ∷ codes "4" ∷ codes "5"
    ∷ codes "6" ∷ codes "7" ∷ codes "8" ∷ codes "9" ∷ codes "incr" ∷ codes "skip" ∷ []

-- the action of a word
abbrev pub action_of : List ℕ → Option ℕ
action_of text = position (is text) action_words

-- a hexadecimal digit that isn't in upper case
abbrev pub is_lower_digit : ℕ → Bool
is_lower_digit digit = is_ascii_digit digit || (nat_le 97 digit && nat_le digit 102)

abbrev pub ok_of : {X E : Type 0} → Result X E → Option X
ok_of (Ok x) = Some x
ok_of (Err e) = None

-- the 32 bytes that 64 such digits write
abbrev pub digest_of : List ℕ → Option (List ℕ)
digest_of text =
    if list_all is_lower_digit text then ok_of (decode_sized text 32) else None

-- ---- values of a body

-- a whole number from 0 to `most`
abbrev pub number_to : ℕ → Data → Option ℕ
number_to most value =
    keep_if (λ number. nat_le number most) (option_and_then as_u64 (as_number value))

abbrev pub name_to : ℕ → Data → Option (List ℕ)
name_to most value = keep_if (is_name_to most) (as_str value)

abbrev pub action_in : Data → Option ℕ
action_in value = option_and_then action_of (as_str value)

abbrev pub digest_in : Data → Option (List ℕ)
digest_in value = option_and_then digest_of (as_str value)

-- ---- bodies

abbrev pub is_object : Data → Bool
is_object value = is_some (as_object value)

-- the JSON object that a body is
abbrev pub object_in : List ℕ → Outcome Data
object_in body = or_malformed (codes "body")
    (keep_if is_object (if is_utf8 body then read body else None))

-- a field that an object has to have
abbrev pub field : {X : Type 0} → List ℕ → (Data → Option X) → Data → Outcome X
field key reads value = or_malformed key (option_and_then reads (get key value))

-- a field that it may lack
abbrev pub optional_in : {X : Type 0} → List ℕ → (Data → Option X) → Option Data → Outcome (Option X)
optional_in key reads None = Ok None
optional_in key reads (Some value) = or_malformed key (option_map Some (reads value))

abbrev pub optional : {X : Type 0} → List ℕ → (Data → Option X) → Data → Outcome (Option X)
optional key reads value = optional_in key reads (get key value)

-- ---- parts of a target

-- the number that decimal digits write, without a sign, where 64 bits hold it
abbrev pub decimal_of : List ℕ → Option ℕ
decimal_of part =
    if nat_lt 0 (length part) && list_all is_ascii_digit part && nat_le (digits_value 10 part) most_u64
    then Some (digits_value 10 part)
    else None

abbrev pub number_part : List ℕ → ℕ → List ℕ → Outcome ℕ
number_part name most part =
    or_malformed name (keep_if (λ number. nat_le number most) (decimal_of part))

abbrev pub name_part : List ℕ → List ℕ → Outcome (List ℕ)
name_part name part = name_in name 64 part
