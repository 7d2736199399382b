-- A head ends at an empty line behind a line that isn't empty.
use Rattle.std.proofs.Common.{◌≡◌, ℕ, ◌+◌, ◌-◌, ◌<◌, ◌≤◌, ◌≢◌, true, false, List, [], ◌∷◌, ◌++◌, length, get_or, All, IsTrue, refl, sym, ap, ◌∙◌, arith, append_assoc, append-nil, length-append}
use Rattle.std.proofs.lemmas.Bool.{false≢true}
use Rattle.std.proofs.lemmas.Bool.Decides.{nat_tests}
use Rattle.std.proofs.lemmas.List.{get_or-append-add}
use Rattle.std.proofs.lemmas.List.Elements.{All-head, All-tail}
use Rattle.std.specs.Prelude.{codes, nat_lt}
use Rattle.std.specs.List.{flat_map}
use Rattle.httparse.specs.Grammar.{RequestHead, IsRequestHead, print_request, LineEnd, crlf, lf, print_end, Field, IsField, print_field, print_section, print_blank, is_value_byte, AllPass}
use Rattle.httparse.specs.Ascii.{colon}
use Rattle.httparse.proofs.GrammarLemmas.{print_request-append, cons-append}
use Rattle.desk_request.specs.HeadEnds.{is_content, before_return, is_head_end, EndsBy}

-- the bytes end in a line that isn't empty and an empty one
pub record EndsIn (bytes : List ℕ) (last : LineEnd) : Type 0 where
  pub front : List ℕ
  pub byte : ℕ
  pub end : LineEnd
  pub content : is_content byte ≡ true
  pub are : bytes ≡ front ++ byte ∷ (print_end end ++ print_end last)

-- bytes with content behind them end in content
record EndsInContent (bytes : List ℕ) : Type 0 where
  front : List ℕ
  byte : ℕ
  content : is_content byte ≡ true
  are : bytes ≡ front ++ byte ∷ []

value_content : (byte : ℕ) → IsTrue (is_value_byte byte) → is_content byte ≡ true
value_content byte value = grind (arith, nat_tests)

digit_content : (minor : ℕ) → minor ≤ 1 → is_content (48 + minor) ≡ true
digit_content minor small = grind (arith, nat_tests)

content_last : (first : ℕ) (raw : List ℕ) → is_content first ≡ true → AllPass is_value_byte raw → EndsInContent (first ∷ raw)
content_last first [] content values = record { front = []; byte = first; content = content; are = refl }
content_last first (next ∷ raw) content values =
    let there = content_last next raw (value_content next (All-head (λ b. IsTrue (is_value_byte b)) next raw values)) (All-tail (λ b. IsTrue (is_value_byte b)) next raw values) in
    record { front = first ∷ there.front; byte = there.byte; content = there.content; are = ap (λ bytes. first ∷ bytes) there.are }

field_regrouped : (front : List ℕ) (byte : ℕ) (end name raw line : List ℕ) (next : ℕ) (field_end fields last : List ℕ) → colon ∷ raw ≡ line ++ next ∷ []
    → front ++ byte ∷ (end ++ (((name ++ colon ∷ raw ++ field_end) ++ fields) ++ last))
    ≡ (front ++ byte ∷ (end ++ (name ++ line))) ++ next ∷ (field_end ++ (fields ++ last))
field_regrouped front byte end name raw line next field_end fields last is =
    let behind = field_end ++ (fields ++ last) in
    let opened : front ++ byte ∷ (end ++ (((name ++ colon ∷ raw ++ field_end) ++ fields) ++ last))
    ≡ front ++ byte ∷ (end ++ (name ++ ((colon ∷ raw) ++ behind))) = simp (append_assoc, cons-append) in
    let closed : front ++ byte ∷ (end ++ (name ++ ((line ++ next ∷ []) ++ behind)))
    ≡ (front ++ byte ∷ (end ++ (name ++ line))) ++ next ∷ behind = simp (append_assoc, cons-append) in
    opened ∙ ap (λ content. front ++ byte ∷ (end ++ (name ++ (content ++ behind)))) is ∙ closed

line_regrouped : (blank method target : List ℕ) (digit : ℕ) (end section : List ℕ)
    → blank ++ (method ++ 32 ∷ (target ++ 32 ∷ ((codes "HTTP/1." ++ digit ∷ []) ++ (end ++ (section ++ [])))))
    ≡ (blank ++ (method ++ 32 ∷ (target ++ 32 ∷ codes "HTTP/1."))) ++ digit ∷ (end ++ section)
line_regrouped blank method target digit end section = simp (append_assoc, cons-append, append-nil)

-- a line that isn't empty, and a section
section_ends : (front : List ℕ) (byte : ℕ) (end : LineEnd) (fields : List Field) (last : LineEnd) → is_content byte ≡ true → All IsField fields
    → EndsIn (front ++ byte ∷ (print_end end ++ print_section fields last)) last
section_ends front byte end [] last content valid = record { front = front; byte = byte; end = end; content = content; are = refl }
section_ends front byte end (field ∷ fields) last content valid =
    let is = All-head IsField field fields valid in
    let line = content_last colon field.raw refl is.raw in
    let behind = front ++ byte ∷ (print_end end ++ (field.name ++ line.front)) in
    let there = section_ends behind line.byte field.end fields last line.content (All-tail IsField field fields valid) in
    record {
      front = there.front;
      byte = there.byte;
      end = there.end;
      content = there.content;
      are = field_regrouped front byte (print_end end) field.name field.raw line.front line.byte (print_end field.end) (flat_map print_field fields) (print_end last) line.are ∙ there.are;
    }

-- a request head
pub head_ends : (head : RequestHead) → IsRequestHead head → EndsIn (print_request head) head.last
head_ends head valid =
    let front = print_blank head.blank ++ (head.method ++ 32 ∷ (head.target ++ 32 ∷ codes "HTTP/1.")) in
    let there = section_ends front (48 + head.minor) head.line_end head.fields head.last (digit_content head.minor valid.minor) valid.fields in
    record {
      front = there.front;
      byte = there.byte;
      end = there.end;
      content = there.content;
      are =
          sym (append-nil (print_request head)) ∙ print_request-append head []
          ∙ line_regrouped (print_blank head.blank) head.method head.target (48 + head.minor) (print_end head.line_end) (print_section head.fields head.last)
          ∙ there.are;
    }

-- ---- where an end is seen

-- a byte behind the front
byte_behind : (front tail : List ℕ) (k j : ℕ) → k ≡ length front + j → get_or (front ++ tail) k 0 ≡ get_or tail j 0
byte_behind front tail k j is = ap (λ i. get_or (front ++ tail) i 0) is ∙ get_or-append-add front tail j 0

skips_return : (bytes : List ℕ) (end before : ℕ) → end ≡ before + 1 → get_or bytes (end - 1) 0 ≡ 13 → before_return bytes end ≡ before
unfolding before_return
skips_return bytes end before is byte = grind (arith, nat_tests)

stays : (bytes : List ℕ) (end byte : ℕ) → get_or bytes (end - 1) 0 ≡ byte → byte ≢ 13 → before_return bytes end ≡ end
unfolding before_return
stays bytes end byte is other = grind (arith, nat_tests)

content_is : (byte : ℕ) → is_content byte ≡ true → byte ≢ 13
content_is byte content = λ (is : byte ≡ 13). absurd (false≢true (sym (ap is_content is) ∙ content))

ten_is_other : (let ten : ℕ = 10 in ten) ≢ 13
ten_is_other = λ same. absurd (omega (arith, same))

positive : (n : ℕ) → nat_lt 0 (n + 1) ≡ true
positive n = grind (arith, nat_tests)

not_over : (a b : ℕ) → (a < b → b ≤ a) → b ≤ a
not_over a b over = grind (arith, over)

-- an empty line ends there, behind one that ends in content
head_end_at : (bytes : List ℕ) (at empty line : ℕ) → get_or bytes at 0 ≡ 10 → before_return bytes at ≡ empty + 1
    → get_or bytes empty 0 ≡ 10 → before_return bytes empty ≡ line + 1 → is_content (get_or bytes line 0) ≡ true
    → is_head_end bytes at ≡ true
head_end_at bytes at empty line feed before other ended content =
    let second : before_return bytes at - 1 ≡ empty = omega (arith, before) in
    let first : before_return bytes empty - 1 ≡ line = omega (arith, ended) in
    rw (feed, second, other, first, content, before, ended, positive empty, positive line) refl

-- such an end is seen
end_is_seen : (front : List ℕ) (byte : ℕ) (end last : LineEnd) (rest : List ℕ) (at : ℕ) → is_content byte ≡ true
    → at + 1 ≡ length front + length (byte ∷ (print_end end ++ print_end last))
    → is_head_end (front ++ (byte ∷ (print_end end ++ print_end last) ++ rest)) at ≡ true
end_is_seen front byte crlf crlf rest at content is =
    let n = length front in
    let tail = byte ∷ (13 ∷ (10 ∷ (13 ∷ (10 ∷ rest)))) in
    let bytes = front ++ tail in
    head_end_at bytes at (n + 2) n (byte_behind front tail at 4 (omega arith))
    (skips_return bytes at (n + 2 + 1) (omega arith) (byte_behind front tail (at - 1) 3 (omega arith)))
    (byte_behind front tail (n + 2) 2 refl)
    (skips_return bytes (n + 2) (n + 1) (omega arith) (byte_behind front tail (n + 2 - 1) 1 (omega arith)))
    (ap is_content (byte_behind front tail n 0 (omega arith)) ∙ content)
end_is_seen front byte crlf lf rest at content is =
    let n = length front in
    let tail = byte ∷ (13 ∷ (10 ∷ (10 ∷ rest))) in
    let bytes = front ++ tail in
    head_end_at bytes at (n + 2) n (byte_behind front tail at 3 (omega arith))
    (stays bytes at 10 (byte_behind front tail (at - 1) 2 (omega arith)) ten_is_other ∙ omega arith)
    (byte_behind front tail (n + 2) 2 refl)
    (skips_return bytes (n + 2) (n + 1) (omega arith) (byte_behind front tail (n + 2 - 1) 1 (omega arith)))
    (ap is_content (byte_behind front tail n 0 (omega arith)) ∙ content)
end_is_seen front byte lf crlf rest at content is =
    let n = length front in
    let tail = byte ∷ (10 ∷ (13 ∷ (10 ∷ rest))) in
    let bytes = front ++ tail in
    head_end_at bytes at (n + 1) n (byte_behind front tail at 3 (omega arith))
    (skips_return bytes at (n + 1 + 1) (omega arith) (byte_behind front tail (at - 1) 2 (omega arith)))
    (byte_behind front tail (n + 1) 1 refl)
    (stays bytes (n + 1) byte (byte_behind front tail (n + 1 - 1) 0 (omega arith)) (content_is byte content))
    (ap is_content (byte_behind front tail n 0 (omega arith)) ∙ content)
end_is_seen front byte lf lf rest at content is =
    let n = length front in
    let tail = byte ∷ (10 ∷ (10 ∷ rest)) in
    let bytes = front ++ tail in
    head_end_at bytes at (n + 1) n (byte_behind front tail at 2 (omega arith))
    (stays bytes at 10 (byte_behind front tail (at - 1) 1 (omega arith)) ten_is_other ∙ omega arith)
    (byte_behind front tail (n + 1) 1 refl)
    (stays bytes (n + 1) byte (byte_behind front tail (n + 1 - 1) 0 (omega arith)) (content_is byte content))
    (ap is_content (byte_behind front tail n 0 (omega arith)) ∙ content)

-- where no end is seen no head ends
pub ends_by : (bytes : List ℕ) (from : ℕ) → ((k : ℕ) → k < length bytes → from ≤ k → is_head_end bytes k ≡ false) → EndsBy from bytes
ends_by bytes from none = λ head rest reads.
    let there = head_ends head reads.0 in
    let tail = there.byte ∷ (print_end there.end ++ print_end head.last) in
    let long : length (print_request head) ≡ length there.front + length tail = ap length there.are ∙ length-append there.front tail in
    let are : bytes ≡ there.front ++ (tail ++ rest) = reads.1 ∙ ap (λ front. front ++ rest) there.are ∙ append_assoc there.front tail rest in
    let at = length (print_request head) - 1 in
    let low : from < length (print_request head) → length (print_request head) ≤ from = λ below.
    let seen = end_is_seen there.front there.byte there.end head.last rest at there.content (omega (arith, long, below)) in
    let within : at < length bytes = omega (arith, below, ap length reads.1, length-append (print_request head) rest) in
    absurd (false≢true (sym (none at within (omega (arith, below))) ∙ ap (λ b. is_head_end b at) are ∙ seen)) in
    not_over from (length (print_request head)) low
