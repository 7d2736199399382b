-- What a call that reads requests does with its source and its buffer.
use Rattle.std.specs.Prelude.{◌≡◌, ◌⊎◌, ℕ, List, [], ◌++◌, Option, Some, None, Result, Ok, Err}
use Rattle.room_base.specs.Outside.{SourceView}
use Rattle.desk_request.specs.Requests.{RequestText, IsRequest, HasNoFirst, BeginsNone}
use Rattle.desk_request.specs.Requests.{NeverBegins}
use Rattle.desk_request.specs.declared.fault.RequestFault.{RequestFault}
use Rattle.desk_request.specs.declared.fault.RequestFault.TheVariants.{Bad, ReadFault, Memory}

-- these bytes moved from the front of those left to the end of those taken
pub record Took (old new : SourceView) (more : List ℕ) : Type 0 where
  pub taken : new.taken ≡ old.taken ++ more
  pub left : old.left ≡ more ++ new.left

-- so many first bytes
abbrev pub IsFront : List ℕ → List ℕ → Type 0
IsFront front bytes = (others : List ℕ) × (bytes ≡ front ++ others)

-- What an answer says of the bytes at hand, which are those that the buffer had and those that were
-- taken, of those that the buffer has now, and of those left.
abbrev pub Reads : List ℕ → List ℕ → List ℕ → Result (Option RequestText) RequestFault → Type 0
Reads hand after left (Ok None) = (hand ≡ []) × (after ≡ []) × (left ≡ [])
Reads hand after left (Ok (Some request)) =
    (front : List ℕ) × (hand ≡ front ++ after) × IsRequest front request
Reads hand after left (Err Bad) =
    BeginsNone hand × (NeverBegins hand ⊎ (left ≡ [])) × IsFront after hand
Reads hand after left (Err ReadFault) = HasNoFirst hand × IsFront after hand
Reads hand after left (Err Memory) = after ≡ hand

-- A call that reads a request took some bytes, and answers by them. Where what the buffer had begins
-- with a whole request, it took none.
pub record ReadsOne (old new : SourceView) (before after : List ℕ)
    (answer : Result (Option RequestText) RequestFault) : Type 0 where
  pub more : List ℕ
  pub took : Took old new more
  pub reads : Reads (before ++ more) after new.left answer
  pub still : (front rest : List ℕ) (request : RequestText) → before ≡ front ++ rest
      → IsRequest front request → more ≡ []
