-- Bytes that are taken until they begin with a head.
use Rattle.std.proofs.Common.{◌≡◌, ◌≢◌, ℕ, ◌<◌, ◌⊎◌, inl, inr, List, [], ◌∷◌, ◌++◌, Result, length, take, Option, None, Some, Ok, Err, refl, sym, ap, subst, ◌∙◌, arith, append-nil, length-append}
use Rattle.std.proofs.lemmas.List.{nil_from_length}
use Rattle.std.proofs.Math.Seq.{take-append_seam}
use Rattle.httparse.specs.Grammar.{RequestHead, IsRequestHead, print_request, print_end}
use Rattle.room_base.specs.Outside.{SourceView, Told}
use Rattle.desk_request.specs.Heads.{HasNoHead, NeverHasHead, FindsHead}
use Rattle.desk_request.specs.Reading.{Took}
use Rattle.desk_request.specs.Steps.{EndsAs, HasEnded, ReadsHead}
use Rattle.desk_request.specs.declared.head.Head.{Head}
use Rattle.desk_request.specs.declared.fault.RequestFault.{RequestFault}
use Rattle.desk_request.specs.declared.fault.RequestFault.TheVariants.{Bad, ReadFault, Memory}
use Rattle.desk_request.proofs.Ending.{head_ends}
use Rattle.desk_request.proofs.Filling.{took_then}

-- a head has bytes
pub head_has_bytes : (head : RequestHead) → IsRequestHead head → 0 < length (print_request head)
head_has_bytes head valid =
    let there = head_ends head valid in
    omega (arith, ap length there.are, length-append there.front (there.byte ∷ (print_end there.end ++ print_end head.last)))

pub none_of_nothing : HasNoHead []
none_of_nothing = λ head rest count reads framed.
    absurd (omega (arith, head_has_bytes head reads.0, ap length reads.1, length-append (print_request head) rest))

-- no bytes are no bytes with some behind
pub has_bytes : (bytes : List ℕ) → 0 < length bytes → bytes ≢ []
has_bytes bytes some = λ none. absurd (omega (arith, some, ap length none))

-- none comes, so none is there
pub none_of_never : (bytes : List ℕ) → NeverHasHead bytes → HasNoHead bytes
none_of_never bytes never = subst HasNoHead (append-nil bytes) (never [])

-- nothing was taken
pub took_none : (source : SourceView) → Took source source []
took_none source = record { taken = sym (append-nil source.taken); left = refl }

-- a fault of the search
pub search_failed : (old new : SourceView) (before after more : List ℕ) (fault : RequestFault) → after ≡ before ++ more → Told old.tells (Took old new more)
    → HasNoHead before ⊎ (more ≡ []) → FindsHead after (Err fault) → 0 < length after → ReadsHead old new before after (Err fault)
search_failed old new before after more Bad added took still never some = record {
  more = more;
  added = added;
  took = took;
  finds = (has_bytes after some, none_of_never after never, inl never);
  still = still;
}
search_failed old new before after more ReadFault added took still never some = absurd never
search_failed old new before after more Memory added took still never some =
    record { more = more; added = added; took = took; finds = tt; still = still }

-- one piece more
pub piece_more : (old mid new : SourceView) (more other : List ℕ) → mid.tells ≡ old.tells → Told old.tells (Took old mid more)
    → Told mid.tells (Took mid new other) → Told old.tells (Took old new (more ++ other))
piece_more old mid new more other tells first second = λ told. took_then old mid new more other (first told) (second (rw tells told))

-- what was searched has no head, however many bytes are put behind it
pub searched_stays : (searched after more : List ℕ) (len : ℕ) → len ≡ length searched → after ≡ searched ++ more → HasNoHead searched
    → HasNoHead (take len after)
searched_stays searched after more len is added none =
    subst HasNoHead (sym (ap (take len) added ∙ ap (λ n. take n (searched ++ more)) is ∙ take-append_seam searched more)) none

-- the search found none
pub none_found : (bytes items : List ℕ) (found : Option Head) → found ≡ None → bytes ≡ items → FindsHead bytes (Ok found) → HasNoHead items
none_found bytes items found is same finds =
    let P : Option Head → Type 0 = λ answer. FindsHead bytes (Ok answer) in
    subst HasNoHead same (subst P is finds)

-- nothing was put behind
pub none_added : (bytes after more : List ℕ) → after ≡ bytes ++ more → 0 ≡ length more → HasNoHead bytes → HasNoHead after
none_added bytes after more added empty none =
    subst HasNoHead (sym (added ∙ ap (λ b. bytes ++ b) (nil_from_length more (omega (arith, empty))) ∙ append-nil bytes)) none

-- the source has ended, and no head is among the last bytes
pub head_ended : (old new : SourceView) (before after more : List ℕ) (answer : Result (Option Head) RequestFault) → after ≡ before ++ more
    → Told old.tells (Took old new more) → HasNoHead before → HasNoHead after → HasEnded new → EndsAs after answer → ReadsHead old new before after answer
head_ended old new before after more (Ok None) added took first none ended ends =
    record { more = more; added = added; took = took; finds = (ends, ended); still = inl first }
head_ended old new before after more (Ok (Some found)) added took first none ended ends = absurd ends
head_ended old new before after more (Err Bad) added took first none ended ends =
    record { more = more; added = added; took = took; finds = (ends, none, inr ended); still = inl first }
head_ended old new before after more (Err ReadFault) added took first none ended ends = absurd ends
head_ended old new before after more (Err Memory) added took first none ended ends = absurd ends

-- what was searched last had no head, so that at first there was none either, or it is the same
pub none_at_first : (before items more : List ℕ) → items ≡ before ++ more → HasNoHead before ⊎ (more ≡ []) → HasNoHead items → HasNoHead before
none_at_first before items more added still none = elim still [
  | inl first ↦ first
  | inr empty ↦ subst HasNoHead (added ∙ ap (λ b. before ++ b) empty ∙ append-nil before) none
]
