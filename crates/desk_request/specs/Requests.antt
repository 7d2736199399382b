-- What bytes are a request, and which requests bytes are.
use Rattle.std.specs.Prelude.{◌≡◌, ◌≢◌, ℕ, ◌+◌, Bool, List, [], ◌∷◌, ◌++◌, length, Option, Some, None}
use Rattle.httparse.specs.Grammar.{RequestHead, ReadsRequest}
use Rattle.desk_request.specs.Framing.{HasBody, headers_of, says_close}

-- what is read of a request, with the number of its bytes
pub record RequestText : Type 0 where
  pub method : List ℕ
  pub target : List ℕ
  pub close : Bool
  pub body : List ℕ
  pub size : ℕ

-- the bytes are a head, and then as many bytes as its headers announce
pub record IsRequest (bytes : List ℕ) (request : RequestText) : Type 0 where
  pub head : RequestHead
  pub reads : ReadsRequest bytes head request.body
  pub framed : HasBody head (length request.body)
  pub method : request.method ≡ head.method
  pub target : request.target ≡ head.target
  pub close : request.close ≡ says_close (headers_of head)
  pub size : request.size ≡ length bytes

-- no prefix of the bytes is a request
abbrev pub HasNoFirst : List ℕ → Type 0
HasNoFirst bytes = (front rest : List ℕ) (request : RequestText) → bytes ≡ front ++ rest
    → ¬ (IsRequest front request)

-- there are bytes, and they begin no request
abbrev pub BeginsNone : List ℕ → Type 0
BeginsNone bytes = (bytes ≢ []) × HasNoFirst bytes

-- no bytes can follow that make a prefix a request
abbrev pub NeverBegins : List ℕ → Type 0
NeverBegins bytes = (more : List ℕ) → BeginsNone (bytes ++ more)

-- the bytes, which stand from `at` on, are these requests, one behind another, and then there are
-- none, or at `bad` bytes that begin no request
abbrev pub RequestsFrom : ℕ → List ℕ → List RequestText → Option ℕ → Type 0
RequestsFrom at bytes [] None = bytes ≡ []
RequestsFrom at bytes [] (Some bad) = (bad ≡ at) × BeginsNone bytes
RequestsFrom at bytes (request ∷ others) bad =
    (front : List ℕ) × (rest : List ℕ) × (bytes ≡ front ++ rest) × IsRequest front request
    × RequestsFrom (at + length front) rest others bad

-- the requests that the bytes are, with the offset of the first bytes that begin none
abbrev pub Requests : List ℕ → List RequestText → Option ℕ → Type 0
Requests bytes requests bad = RequestsFrom 0 bytes requests bad
