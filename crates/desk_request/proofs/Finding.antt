-- A head that was found, and heads that are none of a request.
use Rattle.std.proofs.Common.{◌≡◌, ℕ, ◌<◌, ◌≤◌, List, ◌++◌, length, map, take, drop, take-append-drop, length-append, ◌∙◌, IsTrue, ap, IsUtf8, sym, subst, arith}
use Rattle.std.proofs.lemmas.Bool.Decides.{nat_tests}
use Rattle.std.proofs.lemmas.List.{length-map, length-take, take-append-le}
use Rattle.std.proofs.Math.Seq.{take-append_seam}
use Rattle.std.proofs.lemmas.List.Elements.{All-weaker}
use Rattle.std.proofs.lemmas.Str.{IsUtf8-from_ascii}
use Rattle.std.proofs.lemmas.Str.Ascii.{IsAscii-from_all}
use Rattle.httparse.specs.Grammar.{RequestHead, ReadsRequest, print_request, Field, IsToken, is_token_byte}
use Rattle.httparse.specs.Spans.{AreFieldsAt, header_bytes, name_and_value}
use Rattle.httparse.specs.declared.spans.HeaderSpan.{HeaderSpan}
use Rattle.httparse.proofs.GrammarLemmas.{request_prefix_free}
use Rattle.desk_request.specs.Framing.{HasBody}
use Rattle.desk_request.specs.Heads.{HasNoHead, NeverHasHead}
use Rattle.desk_request.specs.HeadEnds.{EndsBy}

-- the head that is there is none of a request, and no other comes
pub never_of_head : (bytes : List ℕ) (head : RequestHead) (rest : List ℕ) → ReadsRequest bytes head rest
    → ((count : ℕ) → ¬ (HasBody head count)) → NeverHasHead bytes
never_of_head bytes head rest reads unfit = λ more other tail count there framed.
    let same = request_prefix_free bytes more head other rest tail reads there in
    unfit count (subst (λ (h : RequestHead). HasBody h count) (sym same.0) framed)

-- a byte of a token is ASCII
token_byte_small : (b : ℕ) → IsTrue (is_token_byte b) → b < 128
unfolding is_token_byte
token_byte_small b t = grind (arith, nat_tests)

-- a token is text
pub token_text : (bytes : List ℕ) → IsToken bytes → IsUtf8 bytes
token_text bytes token =
    IsUtf8-from_ascii bytes (IsAscii-from_all bytes
    (All-weaker (λ b. IsTrue (is_token_byte b)) (λ b. b < 128) token_byte_small bytes token.1))

-- no more fields than there was room for
pub fields_few : (bytes : List ℕ) (headers : List HeaderSpan) (count : ℕ) (fields : List Field) → AreFieldsAt bytes headers count fields
    → length fields ≤ length headers
fields_few bytes headers count fields are =
    let same : length (map (header_bytes bytes) (take count headers)) ≡ length (map name_and_value fields) = ap length are in
    omega (arith, same, length-map (take count headers) (header_bytes bytes), length-map fields name_and_value, length-take count headers)

-- a head that some first bytes hold whole is theirs
pub reads_within : (front more : List ℕ) (head : RequestHead) (rest : List ℕ) → ReadsRequest (front ++ more) head rest
    → length (print_request head) ≤ length front → ReadsRequest front head (drop (length (print_request head)) front)
reads_within front more head rest reads short =
    let size = length (print_request head) in
    let same : take size front ≡ print_request head =
    sym (take-append-le size front more short) ∙ ap (take size) reads.1 ∙ take-append_seam (print_request head) rest in
    (reads.0, sym (take-append-drop size front) ∙ ap (λ bytes. bytes ++ drop size front) same)

-- no head is there, where the first bytes have none and none ends behind them
pub none_of_first : (bytes : List ℕ) (searched : ℕ) → HasNoHead (take searched bytes) → EndsBy searched bytes → HasNoHead bytes
none_of_first bytes searched none ends = λ head rest count reads framed.
    let first = take searched bytes in
    let whole : ReadsRequest (first ++ drop searched bytes) head rest = (reads.0, take-append-drop searched bytes ∙ reads.1) in
    let low = ends head rest reads in
    let short : length (print_request head) ≤ length first = omega (arith, length-take searched bytes, low, ap length reads.1, length-append (print_request head) rest) in
    none head (drop (length (print_request head)) first) count (reads_within first (drop searched bytes) head rest whole short) framed

-- where a head's most bytes have no head, none comes
pub never_of_long : (bytes : List ℕ) → HasNoHead bytes → 8192 ≤ length bytes → NeverHasHead bytes
never_of_long bytes none long = λ more head rest count reads framed.
    let whole = reads_within bytes more head rest reads (omega (arith, framed.short, long)) in
    none head (drop (length (print_request head)) bytes) count whole framed
