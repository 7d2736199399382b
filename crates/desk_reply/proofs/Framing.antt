-- A reply is taken apart by its head.
use Rattle.std.proofs.Common.{◌≡◌, ◌<◌, ◌≤◌, ◌^◌, ◌+◌, ℕ, List, [], ◌∷◌, ◌++◌, length, take, drop, get_or, cond, codes, decimal, suc, refl, sym, ap, ◌∙◌, arith, append_assoc}
use Rattle.std.proofs.lemmas.Bool.{ne_eqb, le-leb, and_from}
use Rattle.std.proofs.lemmas.Fmt.{decimal_is_IsNumeral, decimal_injective}
use Rattle.std.proofs.lemmas.List.{take_at}
use Rattle.std.proofs.lemmas.Str.Parse.{digit_at}
use Rattle.std.specs.Char.{is_ascii_digit}
use Rattle.std.specs.List.{prefix_len}
use Rattle.std.specs.Str.Parse.{digits_value}
use Rattle.room_command.specs.declared.reply.Reply.{Reply}
use Rattle.desk_reply.specs.Reading.{body_of, first_number, said_length}
use Rattle.desk_reply.specs.Replies.{IsReadable, reply_status, reply_json, reply_bytes, body_bytes}
use Rattle.desk_reply.proofs.Statuses.{length_and_body, parted}

-- digits have no line end
digits_passed : (digits rest : List ℕ) → ((i : ℕ) → i < length digits → 48 ≤ get_or digits i 0)
    → body_of (digits ++ rest) ≡ body_of rest
digits_passed [] rest above = refl
digits_passed (digit ∷ digits) rest above =
    let first : 48 ≤ digit = above 0 (omega arith) in
    rw (ne_eqb 13 digit (λ same. omega arith)) (digits_passed digits rest (λ i within. above (suc i) (omega arith)))

digits_counted : (digits rest : List ℕ) → ((i : ℕ) → i < length digits → (48 ≤ get_or digits i 0) × (get_or digits i 0 ≤ 57))
    → prefix_len is_ascii_digit (digits ++ 13 ∷ rest) ≡ length digits
digits_counted [] rest within = refl
digits_counted (digit ∷ digits) rest within =
    let first = within 0 (omega arith) in
    let others = digits_counted digits rest (λ i inside. within (suc i) (omega arith)) in
    ap (λ b. cond b (1 + prefix_len is_ascii_digit (digits ++ 13 ∷ rest)) 0) (and_from _ _ (le-leb 48 digit first.0) (le-leb digit 57 first.1)) ∙ omega arith

decimal_digits : (count : ℕ) → count < 2 ^ 64 → (i : ℕ) → i < length (decimal count)
    → (48 ≤ get_or (decimal count) i 0) × (get_or (decimal count) i 0 ≤ 57)
decimal_digits count small i within = digit_at _ i (decimal_is_IsNumeral count small).0.1 within

body_behind : (body : List ℕ) → length body < 2 ^ 64 → body_of (length_and_body body) ≡ body
body_behind body small =
    ap body_of (append_assoc (decimal (length body)) (codes "\r\n") (codes "\r\n" ++ body))
    ∙ digits_passed (decimal (length body)) (codes "\r\n\r\n" ++ body) (λ i within. (decimal_digits (length body) small i within).0)

length_read : (body : List ℕ) → length body < 2 ^ 64 → first_number (length_and_body body) ≡ length body
length_read body small =
    let digits = decimal (length body) in
    let rest = 10 ∷ (codes "\r\n" ++ body) in
    ap first_number (append_assoc digits (codes "\r\n") (codes "\r\n" ++ body))
    ∙ ap (λ count. digits_value 10 (take count (digits ++ 13 ∷ rest))) (digits_counted digits rest (decimal_digits (length body) small))
    ∙ ap (digits_value 10) (take_at digits (13 ∷ rest) (length digits) refl)
    ∙ (decimal_is_IsNumeral (length body) small).1

pub body_found : (reply : Reply) → IsReadable reply → body_of (reply_bytes reply) ≡ body_bytes reply
body_found reply readable =
    (parted reply).passed (body_bytes reply) ∙ body_behind (body_bytes reply) readable.1

pub length_said : (reply : Reply) → IsReadable reply → said_length (reply_bytes reply) ≡ length (body_of (reply_bytes reply))
length_said reply readable =
    ap first_number ((parted reply).found (body_bytes reply))
    ∙ length_read (body_bytes reply) readable.1 ∙ sym (ap length (body_found reply readable))

status_digits : (reply : Reply) → take 3 (drop 9 (reply_bytes reply)) ≡ decimal (reply_status reply)
status_digits reply = (parted reply).digits_found (body_bytes reply)

pub same_status : (one other : Reply) → reply_bytes one ≡ reply_bytes other → reply_status one ≡ reply_status other
same_status one other same =
    decimal_injective (reply_status one) (reply_status other) (parted one).small (parted other).small
    (sym (status_digits one) ∙ ap (λ (text : List ℕ). take 3 (drop 9 text)) same ∙ status_digits other)

pub same_value : (one other : Reply) → IsReadable one → IsReadable other → reply_bytes one ≡ reply_bytes other
    → reply_json one ≡ reply_json other
same_value one other readable other_readable same =
    let bodies : body_bytes one ≡ body_bytes other =
    sym (body_found one readable) ∙ ap body_of same ∙ body_found other other_readable in
    let first = readable.0 in
    let second = other_readable.0 in
    cc

pub one_text : (one other : Reply) → IsReadable one → IsReadable other → reply_bytes one ≡ reply_bytes other
    → (reply_status one ≡ reply_status other) × (reply_json one ≡ reply_json other)
one_text one other readable other_readable same =
    (same_status one other same, same_value one other readable other_readable same)
