-- What the headers of a head say of the bytes behind it and of the connection.
use Rattle.std.specs.Prelude.{ℕ, ◌≤◌, ◌≡◌, Bool, ◌&&◌, nat_le, if◌then◌else◌, List, [], ◌∷◌, length}
use Rattle.std.specs.Prelude.{map, filter, codes, Option, Some, None}
use Rattle.std.specs.List.{list_any, list_all}
use Rattle.std.specs.Char.{is_ascii_digit}
use Rattle.std.specs.Str.{str_eq_ignore_ascii_case}
use Rattle.std.specs.Str.Parse.{digits_value}
use Rattle.httparse.specs.Grammar.{RequestHead, print_request}
use Rattle.httparse.specs.Spans.{name_and_value}

-- the most bytes that a head, and that a body, may have, and the most headers
abbrev pub max_head : ℕ
max_head = 8192

abbrev pub max_headers : ℕ
max_headers = 32

abbrev pub max_body : ℕ
max_body = 1048576

-- a header: its name, and its value without the white space around it
abbrev pub Header : Type 0
Header = List ℕ × List ℕ

-- the names of the headers that count here
abbrev pub transfer_encoding : List ℕ
transfer_encoding = codes "transfer-encoding"

abbrev pub content_length : List ℕ
content_length = codes "content-length"

abbrev pub connection : List ℕ
connection = codes "connection"

-- names compare without regard to ASCII case
abbrev pub is_named : List ℕ → Header → Bool
is_named name header = str_eq_ignore_ascii_case header.0 name

-- a Connection header whose value is `close`, without regard to ASCII case
abbrev pub is_close : Header → Bool
is_close header =
    is_named connection header && str_eq_ignore_ascii_case header.1 (codes "close")

-- the headers say that the connection ends behind the reply
abbrev pub says_close : List Header → Bool
says_close headers = list_any is_close headers

-- the values of the headers of a name
abbrev pub values_named : List ℕ → List Header → List (List ℕ)
values_named name headers = map (λ header. header.1) (filter (is_named name) headers)

-- 1 to 7 decimal digits, which write a length that a body may have
abbrev pub is_length : List ℕ → Bool
is_length value =
    nat_le 1 (length value) && nat_le (length value) 7 && list_all is_ascii_digit value
    && nat_le (digits_value 10 value) max_body

-- the length that a value of Content-Length says
abbrev pub length_said : List ℕ → Option ℕ
length_said value = if is_length value then Some (digits_value 10 value) else None

-- the length of the body, by the values of all Content-Length headers
abbrev pub length_by : List (List ℕ) → Option ℕ
length_by [] = Some 0
length_by (value ∷ []) = length_said value
length_by (value ∷ another ∷ others) = None

-- the length of the body that headers announce, where they announce one that is allowed
abbrev pub body_length : List Header → Option ℕ
body_length headers =
    if list_any (is_named transfer_encoding) headers then None
    else length_by (values_named content_length headers)

-- the headers of a head
abbrev pub headers_of : RequestHead → List Header
headers_of head = map name_and_value head.fields

-- a head of a request, whose body has so many bytes
pub record HasBody (head : RequestHead) (count : ℕ) : Type 0 where
  pub short : length (print_request head) ≤ max_head
  pub few : length head.fields ≤ max_headers
  pub announced : body_length (headers_of head) ≡ Some count
