-- What is found of a head at the front of bytes.
use Rattle.std.specs.Prelude.{◌≡◌, ℕ, List, ◌++◌, length, drop, Option, Some, None, Result, Ok, Err}
use Rattle.std.specs.Prelude.{string_bytes}
use Rattle.httparse.specs.Grammar.{RequestHead, ReadsRequest, print_request}
use Rattle.desk_request.specs.Framing.{HasBody, headers_of, says_close}
use Rattle.desk_request.specs.declared.head.Head.{Head}
use Rattle.desk_request.specs.declared.fault.RequestFault.{RequestFault}
use Rattle.desk_request.specs.declared.fault.RequestFault.TheVariants.{Bad, ReadFault, Memory}

-- the bytes begin with the head of a request, and it says what was found
pub record BeginsWith (bytes : List ℕ) (found : Head) : Type 0 where
  pub head : RequestHead
  pub reads : ReadsRequest bytes head (drop found.len bytes)
  pub len : found.len ≡ length (print_request head)
  pub framed : HasBody head found.body
  pub method : string_bytes found.method ≡ head.method
  pub target : string_bytes found.target ≡ head.target
  pub close : found.close ≡ says_close (headers_of head)

-- the bytes don't begin with the head of a request
abbrev pub HasNoHead : List ℕ → Type 0
HasNoHead bytes = (head : RequestHead) (rest : List ℕ) (count : ℕ)
    → ReadsRequest bytes head rest → ¬ (HasBody head count)

-- whatever bytes follow
abbrev pub NeverHasHead : List ℕ → Type 0
NeverHasHead bytes = (more : List ℕ) → HasNoHead (bytes ++ more)

-- what an answer says of the bytes at whose front a head was looked for
abbrev pub FindsHead : List ℕ → Result (Option Head) RequestFault → Type 0
FindsHead bytes (Ok (Some found)) = BeginsWith bytes found
FindsHead bytes (Ok None) = HasNoHead bytes
FindsHead bytes (Err Bad) = NeverHasHead bytes
FindsHead bytes (Err ReadFault) = ⊥
FindsHead bytes (Err Memory) = Unit {0}
