-- Requests that are read of an input of which so many bytes may be taken.
use Rattle.std.proofs.Common.{◌≡◌, ◌≢◌, ◌⊎◌, ℕ, ◌-◌, ◌<◌, ◌==◌, inl, inr, Bool, true, false, List, [], ◌++◌, length, take, Option, Some, None, Result, Ok, Err, refl, sym, ap, ◌∙◌, subst, arith, append-nil}
use Rattle.std.proofs.lemmas.List.{append_cancel_left, length-take, nil_from_length}
use Rattle.std.proofs.lemmas.Bool.Decides.{eqb_tells}
use Rattle.room_base.specs.Outside.{SourceView, Told}
use Rattle.desk_request.specs.Reading.{Reads, ReadsOne}
use Rattle.desk_request.specs.Requests.{BeginsNone, NeverBegins, RequestText}
use Rattle.desk_request.specs.declared.fault.RequestFault.{RequestFault}
use Rattle.desk_request.specs.declared.fault.RequestFault.TheVariants as faults
use Rattle.desk.specs.Limits.{TakesAllowed, TakesOfAllowed, input_limit, limited}
use Rattle.desk.specs.Next.{IsNext, ReadsNext, ReadsWithin, ended}

module _ (old new : SourceView) (before after : ℕ) (bytes rest : List ℕ) (answer : Result (Option RequestText) RequestFault) where
  -- what the source gave, of as much as it might give
  took_within : TakesAllowed old new before after → ReadsOne (limited old before) (limited new after) bytes rest answer
      → ReadsWithin old new bytes rest before after answer
  took_within takes one =
      let same : one.more ≡ takes.more = append_cancel_left old.taken one.more takes.more (sym one.took.taken ∙ takes.took.taken) in
      let R : List ℕ → Type 0 = λ more. Reads (bytes ++ more) rest (take after new.left) answer in
      record { more = takes.more; took = takes.took; allowed = takes.allowed; reads = subst R same one.reads }

  pub within : TakesOfAllowed old new before after → Told old.tells (ReadsOne (limited old before) (limited new after) bytes rest answer)
      → Told old.tells (ReadsWithin old new bytes rest before after answer)
  within takes one = λ told. took_within (takes.told told) (one told)

-- nothing is left, where nothing is of what may be taken
none_left : (allowed : ℕ) (left : List ℕ) → 0 < allowed → take allowed left ≡ [] → left ≡ []
none_left allowed left some none = nil_from_length left (omega (arith, some, length-take allowed left, ap length none))

-- what is left makes no request of bytes that begin none
all_begin_none : (hand left : List ℕ) (allowed : ℕ) → 0 < allowed → BeginsNone hand → NeverBegins hand ⊎ (take allowed left ≡ []) → BeginsNone (hand ++ left)
all_begin_none hand left allowed some begins (inl never) = never left
all_begin_none hand left allowed some begins (inr none) =
    let B : List ℕ → Type 0 = λ bytes. BeginsNone bytes in
    subst B (sym (ap (λ (t : List ℕ). hand ++ t) (none_left allowed left some none) ∙ append-nil hand)) begins

-- what the bytes at hand are
next_is : (hand rest left : List ℕ) (read allowed : ℕ) (is_limit : Bool) (answer : Result (Option RequestText) RequestFault)
    → (is_limit ≡ true → allowed ≡ 0) → (is_limit ≡ false → 0 < allowed) → Reads hand rest (take allowed left) answer
    → IsNext hand rest left read allowed (ended answer is_limit read)
next_is hand rest left read allowed is_limit (Ok (Some request)) full room reads = reads
next_is hand rest left read allowed true (Ok None) full room reads = (inl reads.0, full refl)
next_is hand rest left read allowed false (Ok None) full room reads = (reads.0, none_left allowed left (room refl) reads.2, room refl)
next_is hand rest left read allowed true (Err faults.Bad) full room reads = (inr reads.0, full refl)
next_is hand rest left read allowed false (Err faults.Bad) full room reads =
    (reads.0, all_begin_none hand left allowed (room refl) reads.0 reads.1, refl, room refl)
next_is hand rest left read allowed is_limit (Err faults.ReadFault) full room reads = reads.0
next_is hand rest left read allowed is_limit (Err faults.Memory) full room reads = tt

-- a test against zero
zero_by : (n : ℕ) → (n == 0) ≡ true → n ≡ 0
zero_by n is = elim (eqb_tells n 0) [
  | inl same ↦ same.1
  | inr other ↦ let no : true ≡ false = sym is ∙ other.0 in absurd (cc no)
]

some_by : (n : ℕ) → (n == 0) ≡ false → 0 < n
some_by n is = elim (eqb_tells n 0) [
  | inl same ↦ let no : true ≡ false = sym same.0 ∙ is in absurd (cc no)
  | inr other ↦ (let apart : n ≢ 0 = other.1 in omega arith)
]

-- the next request, of bytes of which so many were read before
pub next : (old new : SourceView) (bytes rest : List ℕ) (before after : ℕ) (answer : Result (Option RequestText) RequestFault)
    → ReadsWithin old new bytes rest before after answer
    → ReadsNext old new bytes rest before after (ended answer (after == 0) ((input_limit - before) - length bytes))
next old new bytes rest before after answer reads = record {
  more = reads.more;
  took = reads.took;
  allowed = reads.allowed;
  next = next_is (bytes ++ reads.more) rest new.left ((input_limit - before) - length bytes) after (after == 0) answer
      (λ full. zero_by after full) (λ room. some_by after room) reads.reads;
}
