-- What is said of the bytes that were taken, said of all bytes.
use Rattle.std.proofs.Common.{◌≡◌, inl, inr, List, ℕ, [], ◌++◌, Some, None, Ok, Err, sym, ap, subst, ◌∙◌, append_assoc, append-nil}
use Rattle.room_base.specs.Outside.{SourceView}
use Rattle.desk_request.specs.Requests.{RequestText, IsRequest, BeginsNone}
use Rattle.desk_request.specs.Reading.{ReadsOne}
use Rattle.desk_request.specs.declared.fault.RequestFault.TheVariants.{Bad}

-- the bytes that were taken, and those left
all_bytes : (before left more rest : List ℕ) → left ≡ more ++ rest → before ++ left ≡ (before ++ more) ++ rest
all_bytes before left more rest is = ap (λ b. before ++ b) is ∙ sym (append_assoc before more rest)

pub request_of_all : (old new : SourceView) (before after : List ℕ) (request : RequestText) → ReadsOne old new before after (Ok (Some request))
    → (front : List ℕ) × (before ++ old.left ≡ front ++ (after ++ new.left)) × IsRequest front request
request_of_all old new before after request read = (
  read.reads.0,
  all_bytes before old.left read.more new.left read.took.left ∙ ap (λ b. b ++ new.left) read.reads.1 ∙ append_assoc read.reads.0 after new.left,
  read.reads.2,
)

pub end_of_all : (old new : SourceView) (before after : List ℕ) → ReadsOne old new before after (Ok None) → before ++ old.left ≡ []
end_of_all old new before after read =
    all_bytes before old.left read.more new.left read.took.left ∙ ap (λ b. b ++ new.left) read.reads.0 ∙ read.reads.2

pub bad_of_all : (old new : SourceView) (before after : List ℕ) → ReadsOne old new before after (Err Bad) → BeginsNone (before ++ old.left)
bad_of_all old new before after read =
    let all = all_bytes before old.left read.more new.left read.took.left in
    elim read.reads.1 [
      | inl never ↦ subst BeginsNone (sym all) (never new.left)
      | inr ended ↦
          subst BeginsNone (sym (all ∙ ap (λ b. (before ++ read.more) ++ b) ended ∙ append-nil (before ++ read.more))) read.reads.0
    ]
