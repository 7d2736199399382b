-- Where the head of a request may end.
use Rattle.std.specs.Prelude.{ℕ, ◌-◌, ◌≤◌, Bool, ◌&&◌, not, ◌==◌, nat_lt, List, length}
use Rattle.std.specs.Prelude.{slice_index, if◌then◌else◌}
use Rattle.httparse.specs.Ascii.{line_feed, carriage_return}
use Rattle.httparse.specs.Grammar.{RequestHead, ReadsRequest, print_request}

-- the end without a carriage return before it
unfoldable pub before_return : List ℕ → ℕ → ℕ
before_return bytes end =
    if nat_lt 0 end && (slice_index bytes (end - 1) == carriage_return) then end - 1 else end

-- a byte that ends no line
abbrev pub is_content : ℕ → Bool
is_content byte = not (byte == line_feed) && not (byte == carriage_return)

-- a line that isn't empty ends there
abbrev pub ends_line : List ℕ → ℕ → Bool
ends_line bytes end =
    let line = before_return bytes end in
    nat_lt 0 line && is_content (slice_index bytes (line - 1))

-- the byte there ends an empty line, and the line before that isn't empty
abbrev pub is_head_end : List ℕ → ℕ → Bool
is_head_end bytes at =
    let empty = before_return bytes at in
    (slice_index bytes at == line_feed) && nat_lt 0 empty
    && (slice_index bytes (empty - 1) == line_feed) && ends_line bytes (empty - 1)

-- a head at the front of the bytes has at most so many of them
abbrev pub EndsBy : ℕ → List ℕ → Type 0
EndsBy most bytes = (head : RequestHead) (rest : List ℕ) → ReadsRequest bytes head rest
    → length (print_request head) ≤ most
