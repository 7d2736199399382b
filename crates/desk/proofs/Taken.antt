-- What was taken of an input, after each request and at each end.
use Rattle.std.proofs.Common.{◌≡◌, ◌≢◌, ℕ, ◌+◌, ◌-◌, ◌≤◌, inl, inr, List, [], ◌∷◌, ◌++◌, length, Option, Some, None, Result, Ok, Err, refl, sym, ap, ◌∙◌, subst, arith, append_assoc, append-nil, length-append}
use Rattle.std.proofs.lemmas.List.{nil_from_length}
use Rattle.httparse.specs.Grammar.{print_request}
use Rattle.room_base.specs.Outside.{SourceView}
use Rattle.desk_request.specs.Reading.{Took}
use Rattle.desk_request.specs.Requests.{BeginsNone, HasNoFirst, IsRequest, RequestText, Requests, RequestsFrom}
use Rattle.desk_request.proofs.Filling.{took_then}
use Rattle.desk_request.proofs.Searching.{head_has_bytes}
use Rattle.desk.specs.Limits.{input_limit}
use Rattle.desk.specs.Next.{IsNext, ReadsNext}
use Rattle.desk.specs.Taken.{AnswersTaken, AreAll, AreFirst, AsksCommand, HasRead, HasTaken}
use Rattle.desk.specs.declared.end.DeskEnd.{DeskEnd}
use Rattle.desk.specs.declared.end.DeskEnd.TheVariants as ends

-- ---- requests one behind another

-- requests, and those of the bytes behind them
pub requests_then : (at : ℕ) (bytes more : List ℕ) (requests others : List RequestText) (bad : Option ℕ) → RequestsFrom at bytes requests None
    → RequestsFrom (at + length bytes) more others bad → RequestsFrom at (bytes ++ more) (requests ++ others) bad
requests_then at bytes more [] others bad none next =
    let R : List ℕ → Type 0 = λ text. RequestsFrom at (text ++ more) others bad in
    let N : ℕ → Type 0 = λ place. RequestsFrom place more others bad in
    let same : at + length bytes ≡ at = omega (arith, ap length none) in
    subst R (sym none) (subst N same next)
requests_then at bytes more (request ∷ requests) others bad these next =
    let front = these.0 in
    let rest = these.1 in
    let N : ℕ → Type 0 = λ place. RequestsFrom place more others bad in
    let place : at + length bytes ≡ (at + length front) + length rest = omega (arith, ap length these.2, length-append front rest) in (
      front,
      rest ++ more,
      ap (λ (text : List ℕ). text ++ more) these.2 ∙ append_assoc front rest more,
      these.3,
      requests_then (at + length front) rest more requests others bad these.4 (subst N place next),
    )

-- one request
one_request : (at : ℕ) (front : List ℕ) (request : RequestText) → IsRequest front request → RequestsFrom at front (request ∷ []) None
one_request at front request is = (front, [], sym (append-nil front), is, refl)

one_more : (read front : List ℕ) (requests : List RequestText) (request : RequestText) → Requests read requests None → IsRequest front request
    → Requests (read ++ front) (requests ++ request ∷ []) None
one_more read front requests request are is =
    requests_then 0 read front requests (request ∷ []) None are (one_request (0 + length read) front request is)

-- the same requests, and then bytes that begin none
then_none : (read hand : List ℕ) (requests : List RequestText) → Requests read requests None → BeginsNone hand
    → Requests (read ++ hand) requests (Some (length read))
then_none read hand requests are none =
    let R : List RequestText → Type 0 = λ all. Requests (read ++ hand) all (Some (length read)) in
    subst R (append-nil requests) (requests_then 0 read hand requests [] (Some (length read)) are ((omega arith), none))

-- and then none
then_empty : (read hand : List ℕ) (requests : List RequestText) → Requests read requests None → hand ≡ [] → Requests (read ++ hand) requests None
then_empty read hand requests are none =
    let R : List ℕ → Type 0 = λ text. Requests text requests None in
    subst R (sym (ap (λ (t : List ℕ). read ++ t) none ∙ append-nil read)) are

-- and then bytes that have no first one
then_unread : (read hand : List ℕ) (requests : List RequestText) → Requests read requests None → HasNoFirst hand → AreAll (read ++ hand) requests
then_unread read [] requests are none = (None, then_empty read [] requests are refl)
then_unread read (byte ∷ hand) requests are none =
    let some : (byte ∷ hand) ≢ [] = λ empty. absurd (cc empty) in
    (Some (length read), then_none read (byte ∷ hand) requests are (some, none))

-- each has a byte at least
pub requests_have_bytes : (at : ℕ) (bytes : List ℕ) (requests : List RequestText) → RequestsFrom at bytes requests None → length requests ≤ length bytes
requests_have_bytes at bytes [] none = omega arith
requests_have_bytes at bytes (request ∷ requests) these =
    let some = head_has_bytes these.3.head these.3.reads.0 in
    let long = length-append (print_request these.3.head) request.body in
    let behind = requests_have_bytes (at + length these.0) these.1 requests these.4 in
    omega (arith, some, long, behind, ap length these.3.reads.1, ap length these.2, length-append these.0 these.1)

-- ---- an input

module _ (requests : List RequestText) (old mid : SourceView) (bytes : List ℕ) (allowed : ℕ) (so_far : HasRead requests old mid bytes allowed) where
  count_read : (input_limit - allowed) - length bytes ≡ length so_far.read
  count_read = omega (arith, so_far.limit)

  module _ (new : SourceView) (rest : List ℕ) (after : ℕ) where
    module _ (result : Result RequestText DeskEnd) (next : ReadsNext mid new bytes rest allowed after result) where
      hand : List ℕ
      hand = bytes ++ next.more

      took_on : Took old new (so_far.read ++ (bytes ++ next.more))
      took_on =
          let T : List ℕ → Type 0 = λ all. Took old new all in
          subst T (append_assoc so_far.read bytes next.more) (took_then old mid new (so_far.read ++ bytes) next.more so_far.took next.took)

      whole : length (so_far.read ++ (bytes ++ next.more)) + after ≡ input_limit
      whole = omega (arith, so_far.limit, next.allowed, length-append so_far.read (bytes ++ next.more), length-append bytes next.more)

    -- a request was read
    pub read_more : (request : RequestText) → ReadsNext mid new bytes rest allowed after (Ok request) → HasRead (requests ++ request ∷ []) old new rest after
    read_more request next =
        let T : List ℕ → Type 0 = λ all. Took old new all in
        let front = next.next.0 in
        let parts : so_far.read ++ (bytes ++ next.more) ≡ (so_far.read ++ front) ++ rest =
        ap (λ (t : List ℕ). so_far.read ++ t) next.next.1 ∙ sym (append_assoc so_far.read front rest) in
        record {
          read = so_far.read ++ front;
          took = subst T parts (took_on (Ok request) next);
          are = one_more so_far.read front requests request so_far.are next.next.2;
          limit = omega (arith, whole (Ok request) next, ap length parts, length-append (so_far.read ++ front) rest);
        }

    -- reading ended
    answers_at : (end : DeskEnd) (more : List ℕ) → length (so_far.read ++ (bytes ++ more)) + after ≡ input_limit
        → IsNext (bytes ++ more) rest new.left ((input_limit - allowed) - length bytes) after (Err end)
        → AnswersTaken end (so_far.read ++ (bytes ++ more)) new.left requests
    answers_at ends.Done more all next =
        (then_empty so_far.read (bytes ++ more) requests so_far.are next.0, next.1, omega (arith, all, next.2))
    answers_at (ends.BadInput offset) more all next =
        let R : ℕ → Type 0 = λ place. Requests (so_far.read ++ (bytes ++ more)) requests (Some place) in
        let W : ℕ → Type 0 = λ place. Requests ((so_far.read ++ (bytes ++ more)) ++ new.left) requests (Some place) in
        let B : List ℕ → Type 0 = λ whole. Requests whole requests (Some (length so_far.read)) in (
          subst R (sym (next.2 ∙ count_read)) (then_none so_far.read (bytes ++ more) requests so_far.are next.0),
          subst W (sym (next.2 ∙ count_read)) (subst B (sym (append_assoc so_far.read (bytes ++ more) new.left))
              (then_none so_far.read ((bytes ++ more) ++ new.left) requests so_far.are next.1)),
          omega (arith, all, next.3),
        )
    answers_at ends.InputLimit more all next =
        let both : AreAll (so_far.read ++ (bytes ++ more)) requests =
        elim next.0 [
          | inl none ↦ (None, then_empty so_far.read (bytes ++ more) requests so_far.are none)
          | inr begins ↦ (Some (length so_far.read), then_none so_far.read (bytes ++ more) requests so_far.are begins)
        ] in
        (both, omega (arith, all, next.1))
    answers_at ends.ReadFault more all next = then_unread so_far.read (bytes ++ more) requests so_far.are next
    answers_at ends.Memory more all next = (so_far.read, bytes ++ more, refl, so_far.are)
    answers_at ends.WriteFault more all next = absurd next
    answers_at ends.DiskFault more all next = absurd next
    answers_at (ends.DamagedJournal file place) more all next = absurd next
    answers_at ends.ClockFault more all next = absurd next

    pub reading_ended : (end : DeskEnd) → ReadsNext mid new bytes rest allowed after (Err end) → HasTaken end requests old new
    reading_ended end next = record {
      taken = so_far.read ++ (bytes ++ next.more);
      took = took_on (Err end) next;
      within = omega (arith, whole (Err end) next);
      answers = answers_at end next.more (whole (Err end) next) next.next;
    }

  -- it ended behind the requests that were read
  module _ (end : DeskEnd) (answers : AnswersTaken end (so_far.read ++ bytes) mid.left requests) where
    pub stopped : HasTaken end requests old mid
    stopped = record {
      taken = so_far.read ++ bytes;
      took = so_far.took;
      within = omega (arith, so_far.limit, length-append so_far.read bytes);
      answers = answers;
    }

  pub are_first : AreFirst (so_far.read ++ bytes) requests
  are_first = (so_far.read, bytes, refl, so_far.are)

  -- as many requests as bytes may be taken
  pub limit_reached : length requests ≡ input_limit → HasTaken ends.InputLimit requests old mid
  limit_reached full =
      let many = requests_have_bytes 0 so_far.read requests so_far.are in
      let none : bytes ≡ [] = nil_from_length bytes (omega (arith, full, many, so_far.limit)) in
      let long : length (so_far.read ++ bytes) ≡ input_limit = omega (arith, full, many, so_far.limit, length-append so_far.read bytes) in
      stopped ends.InputLimit ((None, then_empty so_far.read bytes requests so_far.are none), long)

-- the last request that was read has no answer
pub untimed : (requests : List RequestText) (last : RequestText) (old new : SourceView) (bytes : List ℕ) (allowed : ℕ) → AsksCommand last
    → HasRead (requests ++ last ∷ []) old new bytes allowed → HasTaken ends.ClockFault requests old new
untimed requests last old new bytes allowed asks so_far = record {
  taken = so_far.read ++ bytes;
  took = so_far.took;
  within = omega (arith, so_far.limit, length-append so_far.read bytes);
  answers = (last, asks, (so_far.read, bytes, refl, so_far.are));
}

-- nothing was read
pub none_read : (old : SourceView) → HasRead [] old old [] input_limit
none_read old = record {
  read = [];
  took = record { taken = sym (append-nil old.taken); left = refl };
  are = refl;
  limit = refl;
}
