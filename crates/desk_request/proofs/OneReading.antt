-- Bytes have at most one prefix that is a request.
use Rattle.std.proofs.Common.{◌≡◌, ◌≢◌, ℕ, ◌+◌, List, [], ◌∷◌, ◌++◌, length, take, drop, Option, Some, None, refl, sym, ap, subst, ◌∙◌, arith, length-append}
use Rattle.std.proofs.Math.Seq.{take-append_seam, drop-append_seam}
use Rattle.httparse.specs.Grammar.{RequestHead, ReadsRequest, print_request}
use Rattle.httparse.proofs.GrammarLemmas.{request_unique, ReadsRequest-append}
use Rattle.desk_request.specs.Framing.{HasBody, headers_of, says_close}
use Rattle.desk_request.specs.Requests.{RequestText, IsRequest, RequestsFrom}
use Rattle.desk_request.proofs.Answering.{one_length}
use Rattle.desk_request.proofs.Searching.{head_has_bytes}

-- fronts of one length
same_fronts : (one after other rest : List ℕ) → one ++ after ≡ other ++ rest → length one ≡ length other → (one ≡ other) × (after ≡ rest)
same_fronts one after other rest same long = (
  sym (take-append_seam one after) ∙ ap (take (length one)) same ∙ ap (λ n. take n (other ++ rest)) long ∙ take-append_seam other rest,
  sym (drop-append_seam one after) ∙ ap (drop (length one)) same ∙ ap (λ n. drop n (other ++ rest)) long ∙ drop-append_seam other rest,
)

-- a request in front, and one request
pub first_is_one : (front after other rest : List ℕ) (request another : RequestText) → front ++ after ≡ other ++ rest
    → IsRequest front request → IsRequest other another → (front ≡ other) × (request ≡ another) × (after ≡ rest)
first_is_one front after other rest request another same one two =
    let reads : ReadsRequest (other ++ rest) one.head (request.body ++ after) =
    subst (λ (b : List ℕ). ReadsRequest b one.head (request.body ++ after)) same (ReadsRequest-append front one.head request.body after one.reads) in
    let heads = request_unique (other ++ rest) one.head two.head (request.body ++ after) (another.body ++ rest) reads
    (ReadsRequest-append other two.head another.body rest two.reads) in
    let framed : HasBody two.head (length request.body) = subst (λ (h : RequestHead). HasBody h (length request.body)) heads.0 one.framed in
    let long = one_length two.head (length request.body) (length another.body) framed two.framed in
    let bodies = same_fronts request.body after another.body rest heads.1 long in
    let fronts : front ≡ other =
    one.reads.1 ∙ ap (λ h. print_request h ++ request.body) heads.0 ∙ ap (λ b. print_request two.head ++ b) bodies.0 ∙ sym two.reads.1 in
    let method : request.method ≡ another.method = one.method ∙ ap (λ (h : RequestHead). h.method) heads.0 ∙ sym two.method in
    let target : request.target ≡ another.target = one.target ∙ ap (λ (h : RequestHead). h.target) heads.0 ∙ sym two.target in
    let close : request.close ≡ another.close = one.close ∙ ap (λ (h : RequestHead). says_close (headers_of h)) heads.0 ∙ sym two.close in
    let size : request.size ≡ another.size = one.size ∙ ap length fronts ∙ sym two.size in (
      fronts,
      λ i. record { method = method i; target = target i; close = close i; body = bodies.0 i; size = size i },
      bodies.1,
    )

-- a request has bytes
request_has_bytes : (front rest : List ℕ) (request : RequestText) → IsRequest front request → (front ++ rest) ≢ []
request_has_bytes front rest request one = λ none.
    absurd (omega (
      arith,
      head_has_bytes one.head one.reads.0,
      ap length one.reads.1,
      ap length none,
      length-append front rest,
      length-append (print_request one.head) request.body,
    ))

-- bytes that end or begin no request have none in front
ends_without : (at : ℕ) (bytes front rest : List ℕ) (bad : Option ℕ) (request : RequestText) → RequestsFrom at bytes [] bad → bytes ≡ front ++ rest
    → IsRequest front request → ⊥
ends_without at bytes front rest None request ended is one = request_has_bytes front rest request one (sym is ∙ ended)
ends_without at bytes front rest (Some bad) request ended is one = ended.1.1 front rest request is one

-- the requests that bytes are
pub requests_are_one_from : (at : ℕ) (bytes : List ℕ) (requests others : List RequestText) (bad other_bad : Option ℕ)
    → RequestsFrom at bytes requests bad → RequestsFrom at bytes others other_bad → (requests ≡ others) × (bad ≡ other_bad)
requests_are_one_from at bytes [] [] None None one two = (refl, refl)
requests_are_one_from at bytes [] [] None (Some other) one two = absurd (two.1.0 one)
requests_are_one_from at bytes [] [] (Some bad) None one two = absurd (one.1.0 two)
requests_are_one_from at bytes [] [] (Some bad) (Some other) one two = (refl, ap Some (one.0 ∙ sym two.0))
requests_are_one_from at bytes [] (another ∷ others) bad other_bad one two = absurd (ends_without at bytes two.0 two.1 bad another one two.2 two.3)
requests_are_one_from at bytes (request ∷ requests) [] bad other_bad one two = absurd (ends_without at bytes one.0 one.1 other_bad request two one.2 one.3)
requests_are_one_from at bytes (request ∷ requests) (another ∷ others) bad other_bad one two =
    let first = first_is_one one.0 one.1 two.0 two.1 request another (sym one.2 ∙ two.2) one.3 two.3 in
    let behind = subst (λ (b : List ℕ). RequestsFrom (at + length one.0) b requests bad) first.2 one.4 in
    let there = subst (λ (n : ℕ). RequestsFrom n two.1 others other_bad) (ap (λ (b : List ℕ). at + length b) (sym first.0)) two.4 in
    let same = requests_are_one_from (at + length one.0) two.1 requests others bad other_bad behind there in
    ((λ i. first.1 i ∷ same.0 i), same.1)
