-- Single fields: how each is spelled, and how it is read.
use Rattle.std.specs.Prelude.{ℕ, Bool, true, false, ◌&&◌, ◌||◌, ◌==◌, nat_lt, nat_le}
use Rattle.std.specs.Prelude.{List, [], ◌∷◌, length, take, drop, Option, Some, None, Ok, Err}
use Rattle.std.specs.Prelude.{if◌then◌else◌}
use Rattle.byteorder.specs.Endian.{big_bytes, big_number}
use Rattle.room_base.specs.Numbers.{max_moment}
use Rattle.save_stream.specs.Reading.{is_name, is_path, is_below}
use Rattle.catalog_spelling.specs.Reading.{Part, ◌>>=◌, checked}

-- ---- numbers and bytes

-- a number of so many bytes, the highest first
unfoldable pub number_bytes : ℕ → ℕ → List ℕ
number_bytes size number = big_bytes size number

unfoldable pub number_at : ℕ → List ℕ → Part ℕ
number_at size bytes =
    if nat_lt (length bytes) size then Err (length bytes)
    else Ok (big_number size bytes, drop size bytes)

-- a byte
abbrev pub byte_text : ℕ → List ℕ
byte_text byte = byte ∷ []

abbrev pub byte_at : List ℕ → Part ℕ
byte_at [] = Err 0
byte_at (byte ∷ rest) = Ok (byte, rest)

-- so many bytes
unfoldable pub bytes_at : ℕ → List ℕ → Part (List ℕ)
bytes_at size bytes =
    if nat_lt (length bytes) size then Err (length bytes)
    else Ok (take size bytes, drop size bytes)

-- a number is within these
abbrev pub is_within : ℕ → ℕ → ℕ → Bool
is_within least most number = nat_le least number && nat_le number most

-- a number of so many bytes within these
unfoldable pub number_within_at : ℕ → ℕ → ℕ → List ℕ → Part ℕ
number_within_at size least most bytes =
    checked (is_within least most) bytes (number_at size bytes)

unfoldable pub byte_within_at : ℕ → ℕ → List ℕ → Part ℕ
byte_within_at least most bytes = checked (is_within least most) bytes (byte_at bytes)

-- a number of so many bytes that is at least this one, above this one, or this one
unfoldable pub number_from_at : ℕ → ℕ → List ℕ → Part ℕ
number_from_at size least bytes = checked (λ n. nat_le least n) bytes (number_at size bytes)

unfoldable pub number_above_at : ℕ → ℕ → List ℕ → Part ℕ
number_above_at size low bytes = checked (λ n. nat_lt low n) bytes (number_at size bytes)

unfoldable pub given_number_at : ℕ → ℕ → List ℕ → Part ℕ
given_number_at size given bytes = checked (λ n. n == given) bytes (number_at size bytes)

-- a number of eight bytes, which is 0 where there is none
unfoldable pub number_if_at : Bool → List ℕ → Part ℕ
number_if_at some bytes = checked (λ n. some || (n == 0)) bytes (number_at 8 bytes)

abbrev pub moment_at : List ℕ → Part ℕ
moment_at bytes = number_within_at 8 0 max_moment bytes

-- ---- bytes that stand for something

-- what a byte stands for, by a table
abbrev pub coded : {X : Type 0} → List (ℕ × X) → ℕ → Option X
coded [] byte = None
coded (row ∷ rows) byte = if byte == row.0 then Some row.1 else coded rows byte

-- what is read of a byte that stands for this, at the front of so many bytes
abbrev pub coded_part : {X : Type 0} → Option X → ℕ → List ℕ → Part X
coded_part None behind rest = Err behind
coded_part (Some x) behind rest = Ok (x, rest)

unfoldable pub code_at : {X : Type 0} → List (ℕ × X) → List ℕ → Part X
code_at rows bytes = byte_at bytes >>= λ byte. coded_part (coded rows byte.0) (length bytes) byte.1

-- a flag is 0 or 1
abbrev pub flags : List (ℕ × Bool)
flags = (0, false) ∷ (1, true) ∷ []

abbrev pub flag_byte : Bool → ℕ
flag_byte false = 0
flag_byte true = 1

-- ---- texts

-- a name of least to most bytes, behind one byte of length
unfoldable pub text_at : ℕ → ℕ → List ℕ → Part (List ℕ)
text_at least most bytes = do
  size ← byte_within_at least most bytes
  checked is_name size.1 (bytes_at size.0 size.1)

-- a name of 1 to most bytes
abbrev pub name_at : ℕ → List ℕ → Part (List ℕ)
name_at most bytes = text_at 1 most bytes

-- a path above another, behind two bytes of length
unfoldable pub path_at : List ℕ → List ℕ → Part (List ℕ)
path_at last bytes = do
  size ← number_within_at 2 1 1024 bytes
  checked (λ path. is_path path && is_below last path) size.1 (bytes_at size.0 size.1)
