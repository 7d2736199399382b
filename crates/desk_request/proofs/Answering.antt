-- What the bytes at hand are, by the head that was found and the body that was taken.
use Rattle.std.proofs.Common.{◌≡◌, ◌≢◌, ℕ, ◌+◌, ◌<◌, ◌≤◌, ◌⊎◌, inl, inr, IsTrue, List, [], ◌++◌, length, drop, string_bytes, Some, Ok, Err, sym, ap, subst, ◌∙◌, arith, append_assoc, append-nil, length-append}
use Rattle.std.proofs.lemmas.List.{nil_from_length}
use Rattle.httparse.specs.Grammar.{RequestHead, ReadsRequest, print_request}
use Rattle.httparse.proofs.GrammarLemmas.{request_unique, ReadsRequest-append}
use Rattle.room_base.specs.Outside.{SourceView, Told}
use Rattle.desk_request.specs.Framing.{HasBody}
use Rattle.desk_request.specs.Heads.{BeginsWith, HasNoHead, NeverHasHead}
use Rattle.desk_request.specs.Requests.{RequestText, IsRequest, HasNoFirst, BeginsNone, NeverBegins}
use Rattle.desk_request.specs.Reading.{Took, ReadsOne, IsFront}
use Rattle.desk_request.specs.Steps.{ReadsHead, ReadsBody}
use Rattle.desk_request.specs.declared.head.Head.{Head}
use Rattle.desk_request.specs.declared.fault.RequestFault.{RequestFault}
use Rattle.desk_request.specs.declared.fault.RequestFault.TheVariants.{Bad, ReadFault, Memory}
use Rattle.desk_request.proofs.Filling.{took_then}
use Rattle.desk_request.proofs.Searching.{head_has_bytes}

-- bytes without a head have no request in front
pub none_first : (bytes : List ℕ) → HasNoHead bytes → HasNoFirst bytes
none_first bytes none = λ front rest request is there.
    let reads : ReadsRequest bytes there.head (request.body ++ rest) =
    subst (λ (b : List ℕ). ReadsRequest b there.head (request.body ++ rest)) (sym is)
    (ReadsRequest-append front there.head request.body rest there.reads) in
    none there.head (request.body ++ rest) (length request.body) reads there.framed

pub begins_none : (bytes : List ℕ) → bytes ≢ [] → HasNoHead bytes → BeginsNone bytes
begins_none bytes some none = (some, none_first bytes none)

pub never_begins : (bytes : List ℕ) → bytes ≢ [] → NeverHasHead bytes → NeverBegins bytes
never_begins bytes some never = λ more. (
  (λ none. some (nil_from_length bytes (omega (arith, ap length none, length-append bytes more)))),
  none_first (bytes ++ more) (never more),
)

-- two lengths that the same headers announce
pub one_length : (head : RequestHead) (one other : ℕ) → HasBody head one → HasBody head other → one ≡ other
one_length head one other first second =
    let same : Some one ≡ Some other = sym first.announced ∙ second.announced in cc

-- a body that is cut short
pub body_cut : (bytes more : List ℕ) (found : Head) → BeginsWith bytes found → length (drop found.len bytes ++ more) < found.body
    → HasNoFirst (bytes ++ more)
body_cut bytes more found begins cut = λ front rest request is there.
    let reads : ReadsRequest (bytes ++ more) there.head (request.body ++ rest) =
    subst (λ (b : List ℕ). ReadsRequest b there.head (request.body ++ rest)) (sym is)
    (ReadsRequest-append front there.head request.body rest there.reads) in
    let same = request_unique (bytes ++ more) there.head begins.head (request.body ++ rest) (drop found.len bytes ++ more) reads
    (ReadsRequest-append bytes begins.head (drop found.len bytes) more begins.reads) in
    let long = one_length begins.head (length request.body) found.body (subst (λ (h : RequestHead). HasBody h (length request.body)) same.0 there.framed) begins.framed in
    absurd (omega (arith, cut, long, ap length same.1, length-append request.body rest))

-- the body of a request that is in front is there
pub body_there : (bytes front rest : List ℕ) (found : Head) (request : RequestText) → BeginsWith bytes found → bytes ≡ front ++ rest
    → IsRequest front request → found.body ≤ length (drop found.len bytes)
body_there bytes front rest found request begins is there =
    let reads : ReadsRequest bytes there.head (request.body ++ rest) =
    subst (λ (b : List ℕ). ReadsRequest b there.head (request.body ++ rest)) (sym is)
    (ReadsRequest-append front there.head request.body rest there.reads) in
    let same = request_unique bytes there.head begins.head (request.body ++ rest) (drop found.len bytes) reads begins.reads in
    let long = one_length begins.head (length request.body) found.body (subst (λ (h : RequestHead). HasBody h (length request.body)) same.0 there.framed) begins.framed in
    omega (arith, long, ap length same.1, length-append request.body rest)

-- nothing is taken for a head that is there
pub head_still : (before more front rest : List ℕ) (request : RequestText) → HasNoHead before ⊎ (more ≡ []) → before ≡ front ++ rest
    → IsRequest front request → more ≡ []
head_still before more front rest request still is there = elim still [
  | inl none ↦ absurd (none_first before none front rest request is there)
  | inr empty ↦ empty
]

-- where nothing was taken for the head, the bytes are those that were there
same_bytes : (before bytes one : List ℕ) → bytes ≡ before ++ one → one ≡ [] → bytes ≡ before
same_bytes before bytes one added empty = added ∙ ap (λ b. before ++ b) empty ∙ append-nil before

-- no request is in front of bytes, of which with others none is
none_of_cut : (before bytes one more front rest : List ℕ) (request : RequestText) → bytes ≡ before ++ one → one ≡ [] → before ≡ front ++ rest
    → IsRequest front request → HasNoFirst (bytes ++ more) → ⊥
none_of_cut before bytes one more front rest request added empty is there none =
    none front (rest ++ more) request (ap (λ b. b ++ more) (same_bytes before bytes one added empty ∙ is) ∙ append_assoc front rest more) there

-- a head has bytes
pub begins_some : (bytes more : List ℕ) (found : Head) → BeginsWith bytes found → (bytes ++ more) ≢ []
begins_some bytes more found begins = λ none.
    absurd (omega (
      arith,
      head_has_bytes begins.head begins.reads.0,
      ap length begins.reads.1,
      ap length none,
      length-append bytes more,
      length-append (print_request begins.head) (drop found.len bytes),
    ))

-- the buffer has all the bytes at hand
whole_front : (before after more : List ℕ) → after ≡ before ++ more → IsFront after (before ++ more)
whole_front before after more added = ([], sym added ∙ sym (append-nil after))

-- the bytes of a head are taken, and then others
regrouped : (before bytes one other : List ℕ) → bytes ≡ before ++ one → before ++ (one ++ other) ≡ bytes ++ other
regrouped before bytes one other added = sym (append_assoc before one other) ∙ ap (λ b. b ++ other) (sym added)

-- no head was found
pub head_failed : (old new : SourceView) (before after : List ℕ) (fault : RequestFault) → new.tells ≡ old.tells → IsTrue old.tells
    → ReadsHead old new before after (Err fault) → ReadsOne old new before after (Err fault)
head_failed old new before after Bad tells told read = record {
  more = read.more;
  took = read.took told;
  reads = (
    subst BeginsNone read.added (begins_none after read.finds.0 read.finds.1),
    elim read.finds.2 [
      | inl never ↦ inl (subst NeverBegins read.added (never_begins after read.finds.0 never))
      | inr ended ↦ inr (ended (rw tells told))
    ],
    whole_front before after read.more read.added,
  );
  still = λ front rest request. head_still before read.more front rest request read.still;
}
head_failed old new before after ReadFault tells told read = record {
  more = read.more;
  took = read.took told;
  reads = (subst HasNoFirst read.added (none_first after read.finds), whole_front before after read.more read.added);
  still = λ front rest request. head_still before read.more front rest request read.still;
}
head_failed old new before after Memory tells told read = record {
  more = read.more;
  took = read.took told;
  reads = read.added;
  still = λ front rest request. head_still before read.more front rest request read.still;
}

-- no whole body was there
pub body_failed : {V : Type 0} (items : V → List ℕ) (old mid new : SourceView) (before bytes after one : List ℕ) (found : Head) (fault : RequestFault)
    → new.tells ≡ mid.tells → mid.tells ≡ old.tells → IsTrue old.tells → bytes ≡ before ++ one → Told old.tells (Took old mid one) → BeginsWith bytes found
    → HasNoHead before ⊎ (one ≡ []) → ReadsBody items mid new bytes after found.len found.body (Err fault) → ReadsOne old new before after (Err fault)
body_failed items old mid new before bytes after one found Bad tells mid_tells told added took begins still read =
    let same = regrouped before bytes one read.more added in record {
      more = one ++ read.more;
      took = took_then old mid new one read.more (took told) (read.took (rw mid_tells told));
      reads = (
        subst BeginsNone (sym same) (begins_some bytes read.more found begins, body_cut bytes read.more found begins read.gives.1),
        inr (read.gives.2 (rw (tells, mid_tells) told)),
        (read.more, same ∙ ap (λ b. b ++ read.more) (sym read.gives.0)),
      );
      still = λ front rest request is there.
          absurd (none_of_cut before bytes one read.more front rest request added (head_still before one front rest request still is there) is there
          (body_cut bytes read.more found begins read.gives.1));
    }
body_failed items old mid new before bytes after one found ReadFault tells mid_tells told added took begins still read =
    let same = regrouped before bytes one read.more added in record {
      more = one ++ read.more;
      took = took_then old mid new one read.more (took told) (read.took (rw mid_tells told));
      reads = (
        subst HasNoFirst (sym same) (body_cut bytes read.more found begins read.gives.1),
        (read.more, same ∙ ap (λ b. b ++ read.more) (sym read.gives.0)),
      );
      still = λ front rest request is there.
          absurd (none_of_cut before bytes one read.more front rest request added (head_still before one front rest request still is there) is there
          (body_cut bytes read.more found begins read.gives.1));
    }
body_failed items old mid new before bytes after one found Memory tells mid_tells told added took begins still read =
    let same = regrouped before bytes one read.more added in record {
      more = one ++ read.more;
      took = took_then old mid new one read.more (took told) (read.took (rw mid_tells told));
      reads = read.gives.0 ∙ sym (same ∙ ap (λ b. bytes ++ b) read.gives.1 ∙ append-nil bytes);
      still = λ front rest request is there.
          ap (λ b. b ++ read.more) (head_still before one front rest request still is there) ∙ read.gives.1;
    }

-- a head and its body
pub request_read : (old mid new : SourceView) (before bytes after body one other : List ℕ) (found : Head) (request : RequestText)
    → bytes ≡ before ++ one → Took old mid one → Took mid new other → BeginsWith bytes found
    → HasNoHead before ⊎ (one ≡ []) → drop found.len bytes ++ other ≡ body ++ after → length body ≡ found.body
    → (found.body ≤ length (drop found.len bytes) → other ≡ [])
    → request ≡ record { method = string_bytes found.method; target = string_bytes found.target; close = found.close; body = body; size = found.len + found.body }
    → ReadsOne old new before after (Ok (Some request))
request_read old mid new before bytes after body one other found request added first second begins still given long rest_still is =
    let text = print_request begins.head in record {
      more = one ++ other;
      took = took_then old mid new one other first second;
      reads = (
        text ++ body,
        regrouped before bytes one other added ∙ ap (λ b. b ++ other) begins.reads.1 ∙ append_assoc text (drop found.len bytes) other
            ∙ ap (λ b. text ++ b) given ∙ sym (append_assoc text body after),
        record {
          head = begins.head;
          reads = (begins.reads.0, ap (λ (r : RequestText). text ++ r.body) (sym is));
          framed = subst (λ (n : ℕ). HasBody begins.head n) (sym (ap (λ (r : RequestText). length r.body) is ∙ long)) begins.framed;
          method = ap (λ (r : RequestText). r.method) is ∙ begins.method;
          target = ap (λ (r : RequestText). r.target) is ∙ begins.target;
          close = ap (λ (r : RequestText). r.close) is ∙ begins.close;
          size = ap (λ (r : RequestText). r.size) is ∙ omega (arith, begins.len, long, length-append text body);
        },
      );
      still = λ front rest whole was there.
          let empty = head_still before one front rest whole still was there in
          ap (λ b. b ++ other) empty
          ∙ rest_still (body_there bytes front rest found whole begins (same_bytes before bytes one added empty ∙ was) there);
    }
