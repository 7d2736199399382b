-- What is true of a desk between two requests, and after each step of one.
use Rattle.std.proofs.Common.{◌≡◌, ◌⊎◌, ℕ, ◌≤◌, inl, inr, Bool, true, false, IsTrue, List, [], ◌∷◌, ◌++◌, refl, sym, ap, ◌∙◌, subst, arith, append-nil, append_assoc, length, length-append, ◌+◌}
use Rattle.std.specs.Prelude.{Some, None, Ok}
use Rattle.room_base.specs.Outside.{ClockView, SinkView, SourceView, Told}
use Rattle.room_command.specs.declared.reply.Reply.{Reply}
use Rattle.room_disk.specs.Disk.{DiskView, IsDisk}
use Rattle.room_effects.specs.View.{IsRoom, RoomView}
use Rattle.room_turns.specs.Runs.{Passage}
use Rattle.room_turns.specs.Steps.{Call}
use Rattle.room_turns.specs.Served.{Served}
use Rattle.room_turns.proofs.Serving.{served_more, served_none, served_reopened}
use Rattle.room_core.specs.Opening.{IsOpenedBy}
use Rattle.desk_request.specs.Requests.{RequestText}
use Rattle.desk_reply.specs.Replies.{reply_bytes}
use Rattle.desk.specs.Exchanges.{AreAsked, AreTimed, Called, Exchange, Refused, answer_text, passages_of, reply_of, request_of, requests_of, text_of}
use Rattle.desk.specs.Limits.{input_limit}
use Rattle.desk.specs.Next.{ReadsNext}
use Rattle.desk.specs.Runs.{Around, Stays, WritesAll, around}
use Rattle.desk.specs.Steps.{IsCalled, IsRefused, OpensQuietly}
use Rattle.desk.specs.Taken.{HasRead}
use Rattle.desk.proofs.Exchanges.{answer_is, asked_one_more, asked_other, passages_called, passages_refused, requests_one_more, text_one_more, timed_one_more, timed_other}
use Rattle.desk.proofs.Taken.{none_read, read_more}

-- what told its contents still does
pub still : (before now : Bool) → now ≡ before → IsTrue before → IsTrue now
still before now same told = let T : Bool → Type 0 = λ tells. IsTrue tells in subst T (sym same) told

-- Requests were read, answered and the replies written. `bytes` were taken and aren't read, and so
-- many more may be taken.
pub record SoFar (exchanges : List Exchange) (old new : RoomView) (before now : Around) (bytes : List ℕ) (allowed : ℕ) : Type 0 where
  pub asked : AreAsked exchanges
  pub input : Told before.input.tells (HasRead (requests_of exchanges) before.input now.input bytes allowed)
  pub moments : Told before.clock.tells (AreTimed before.clock.moments (passages_of exchanges) now.clock.moments)
  pub out : Told before.out.tells (WritesAll exchanges before.out.written now.out.written)
  pub stays : Stays before now
  pub served : Served (passages_of exchanges) old new before.disk now.disk

-- the last exchange is one of an open room, or a call behind which the room wasn't opened again
abbrev pub IsLast : Exchange → RoomView → Type 0
IsLast (Refused request refusal) room = IsTrue room.is_open
IsLast (Called request passage) room = passage ≡ record { call = passage.call; deeds = passage.deeds; reopening = None }

-- the same, and one more request was read and answered, whose reply isn't written yet
pub record Answered (others : List Exchange) (last : Exchange) (reply : Reply) (old new : RoomView) (before now : Around) (bytes : List ℕ) (allowed : ℕ)
    : Type 0 where
  pub asked : AreAsked (others ++ last ∷ [])
  pub input : Told before.input.tells (HasRead (requests_of (others ++ last ∷ [])) before.input now.input bytes allowed)
  pub moments : Told before.clock.tells (AreTimed before.clock.moments (passages_of (others ++ last ∷ [])) now.clock.moments)
  pub out : Told before.out.tells (WritesAll others before.out.written now.out.written)
  pub stays : Stays before now
  pub served : Served (passages_of (others ++ last ∷ [])) old new before.disk now.disk
  pub reply_is : reply_of last ≡ reply
  pub is_last : IsLast last new

-- ---- the beginning

pub stays_none : (before : Around) → Stays before before
stays_none before = record {
  input = omega arith;
  out = omega arith;
  clock = omega arith;
  input_tells = refl;
  out_tells = refl;
  clock_tells = refl;
}

pub nothing_yet : (room : RoomView) (before : Around) → IsRoom room → SoFar [] room room before before [] input_limit
nothing_yet room before is = record {
  asked = tt;
  input = λ told. none_read before.input;
  moments = λ told. refl;
  out = λ told. sym (append-nil before.out.written);
  stays = stays_none before;
  served = served_none room before.disk is;
}

-- ---- a request is read and answered

module _ (exchanges : List Exchange) (old room : RoomView) (before mid : Around) (bytes : List ℕ) (allowed : ℕ) (so_far : SoFar exchanges old room before mid bytes allowed)
    (opens : IsTrue room.is_open) where
  module _ (input : SourceView) (rest : List ℕ) (after : ℕ) (request : RequestText) (input_later : mid.input.faults ≤ input.faults)
      (input_tells : input.tells ≡ mid.input.tells) (read : Told mid.input.tells (ReadsNext mid.input input bytes rest allowed after (Ok request))) where
    read_one : Told before.input.tells (HasRead (requests_of exchanges ++ request ∷ []) before.input input rest after)
    read_one = λ told.
        let one = read (still before.input.tells mid.input.tells so_far.stays.input_tells told) in
        read_more (requests_of exchanges) before.input mid.input bytes allowed (so_far.input told) input rest after request one

    pub read_last : (last : Exchange) → request_of last ≡ request
        → Told before.input.tells (HasRead (requests_of (exchanges ++ last ∷ [])) before.input input rest after)
    read_last last is = λ told.
        let R : List RequestText → Type 0 = λ requests. HasRead requests before.input input rest after in
        subst R (sym (requests_one_more exchanges last ∙ ap (λ (one : RequestText). requests_of exchanges ++ one ∷ []) is)) (read_one told)

    pub read_only : Told before.input.tells (HasRead (requests_of exchanges ++ request ∷ []) before.input input rest after)
    read_only = read_one

    -- a request that asks for no command
    pub answered_refusal : (reply : Reply) (is : IsRefused request reply)
        → Answered exchanges (Refused request is.refusal) reply old room before (around input mid.out mid.clock mid.disk) rest after
    answered_refusal reply is =
        let last = Refused request is.refusal in
        let P : List Passage → Type 0 = λ passages. Served passages old room before.disk mid.disk in
        let T : List Passage → Type 0 = λ passages. AreTimed before.clock.moments passages mid.clock.moments in
        let same = passages_refused exchanges request is.refusal in
        record {
          asked = asked_one_more exchanges last so_far.asked is.asked;
          input = read_last last refl;
          moments = λ told. subst T (sym same) (so_far.moments told);
          out = so_far.out;
          stays = record {
            input = omega (arith, so_far.stays.input, input_later);
            out = so_far.stays.out;
            clock = so_far.stays.clock;
            input_tells = input_tells ∙ so_far.stays.input_tells;
            out_tells = so_far.stays.out_tells;
            clock_tells = so_far.stays.clock_tells;
          };
          served = subst P (sym same) so_far.served;
          reply_is = sym is.is;
          is_last = opens;
        }

    -- a request whose command was called
    module _ (reply : Reply) (new : RoomView) (clock : ClockView) (disk : DiskView) (clock_later : mid.clock.faults ≤ clock.faults)
        (clock_tells : clock.tells ≡ mid.clock.tells) (is_disk : IsDisk mid.disk) (called : IsCalled request reply room new mid.disk disk mid.clock clock) where
      abbrev pub call : Call
      call = record { clock = called.moment.0; command = called.command; reply = reply }

      abbrev pub passage : Passage
      passage = record { call = call; deeds = called.turn.deeds; reopening = None }

      served_one : Served (passages_of exchanges ++ passage ∷ []) old new before.disk disk
      served_one = served_more (passages_of exchanges) call old room new before.disk mid.disk disk so_far.served opens called.turn called.is is_disk

      timed_one : Told before.clock.tells (AreTimed before.clock.moments (passages_of exchanges ++ passage ∷ []) clock.moments)
      timed_one = λ told.
          let timed = called.timed (still before.clock.tells mid.clock.tells so_far.stays.clock_tells told) in
          timed_one_more before.clock.moments mid.clock.moments clock.moments (passages_of exchanges) passage (so_far.moments told) timed.0 timed.1

      pub answered_call : Answered exchanges (Called request passage) reply old new before (around input mid.out clock disk) rest after
      answered_call =
          let P : List Passage → Type 0 = λ passages. Served passages old new before.disk disk in
          let T : List Passage → Type 0 = λ passages. AreTimed before.clock.moments passages clock.moments in
          let same = passages_called exchanges request passage in
          record {
            asked = asked_one_more exchanges (Called request passage) so_far.asked called.asked;
            input = read_last (Called request passage) refl;
            moments = λ told. subst T (sym same) (timed_one told);
            out = so_far.out;
            stays = record {
              input = omega (arith, so_far.stays.input, input_later);
              out = so_far.stays.out;
              clock = omega (arith, so_far.stays.clock, clock_later);
              input_tells = input_tells ∙ so_far.stays.input_tells;
              out_tells = so_far.stays.out_tells;
              clock_tells = clock_tells ∙ so_far.stays.clock_tells;
            };
            served = subst P (sym same) served_one;
            reply_is = refl;
            is_last = refl;
          }

-- ---- the reply is written

module _ (others : List Exchange) (last : Exchange) (reply : Reply) (old new : RoomView) (before mid : Around) (bytes : List ℕ) (allowed : ℕ)
    (answered : Answered others last reply old new before mid bytes allowed) where
  pub last_text : answer_text last ≡ reply_bytes reply
  last_text = answer_is last ∙ ap reply_bytes answered.reply_is

  pub stays_out : (out : SinkView) → mid.out.faults ≤ out.faults → out.tells ≡ mid.out.tells → Stays before (around mid.input out mid.clock mid.disk)
  stays_out out later tells = record {
    input = answered.stays.input;
    out = omega (arith, answered.stays.out, later);
    clock = answered.stays.clock;
    input_tells = answered.stays.input_tells;
    out_tells = tells ∙ answered.stays.out_tells;
    clock_tells = answered.stays.clock_tells;
  }

  pub written_one : (out : SinkView) → mid.out.faults ≤ out.faults → out.tells ≡ mid.out.tells
      → Told mid.out.tells (out.written ≡ mid.out.written ++ reply_bytes reply)
      → SoFar (others ++ last ∷ []) old new before (around mid.input out mid.clock mid.disk) bytes allowed
  written_one out later tells sent = record {
    asked = answered.asked;
    input = answered.input;
    moments = answered.moments;
    out = λ told. sent (still before.out.tells mid.out.tells answered.stays.out_tells told)
        ∙ ap (λ (text : List ℕ). text ++ reply_bytes reply) (answered.out told)
        ∙ append_assoc before.out.written (text_of others) (reply_bytes reply)
        ∙ ap (λ (text : List ℕ). before.out.written ++ (text_of others ++ text)) (sym last_text)
        ∙ ap (λ (text : List ℕ). before.out.written ++ text) (sym (text_one_more others last));
    stays = stays_out out later tells;
    served = answered.served;
  }

-- ---- the room is opened again

module _ (others : List Exchange) (request : RequestText) (passage : Passage) (old shut : RoomView) (before mid : Around) (bytes : List ℕ) (allowed : ℕ)
    (so_far : SoFar (others ++ Called request passage ∷ []) old shut before mid bytes allowed)
    (is_last : passage ≡ record { call = passage.call; deeds = passage.deeds; reopening = None }) (closed : shut.is_open ≡ false) where
  module _ (room : RoomView) (disk : DiskView) (is_disk : IsDisk mid.disk) (opened : IsOpenedBy room mid.disk disk) (quiet : OpensQuietly mid.disk disk) where
    abbrev pub again : Passage
    again = record { call = passage.call; deeds = passage.deeds; reopening = Some opened.opening }

    served_again : Served (passages_of others ++ again ∷ []) old room before.disk disk
    served_again =
        let P : List Passage → Type 0 = λ passages. Served passages old shut before.disk mid.disk in
        let L : Passage → Type 0 = λ one. Served (passages_of others ++ one ∷ []) old shut before.disk mid.disk in
        let R : RoomView → Type 0 = λ one. Served (passages_of others ++ again ∷ []) old one before.disk disk in
        let was = subst L is_last (subst P (passages_called others request passage) so_far.served) in
        subst R (sym opened.room_is)
        (served_reopened (passages_of others) passage.call passage.deeds opened.opening old shut before.disk mid.disk disk was closed opened.held opened.fits is_disk
        quiet.tells quiet.later quiet.quiet opened.replays opened.journal)

    requests_again : requests_of (others ++ Called request passage ∷ []) ≡ requests_of (others ++ Called request again ∷ [])
    requests_again = requests_one_more others (Called request passage) ∙ sym (requests_one_more others (Called request again))

    text_again : text_of (others ++ Called request passage ∷ []) ≡ text_of (others ++ Called request again ∷ [])
    text_again =
        text_one_more others (Called request passage)
        ∙ ap (λ (text : List ℕ). text_of others ++ text) (answer_is (Called request passage) ∙ sym (answer_is (Called request again)))
        ∙ sym (text_one_more others (Called request again))

    pub reopened_so_far : SoFar (others ++ Called request again ∷ []) old room before (around mid.input mid.out mid.clock disk) bytes allowed
    reopened_so_far =
        let Q : List RequestText → Type 0 = λ requests. HasRead requests before.input mid.input bytes allowed in
        let T : List Passage → Type 0 = λ passages. AreTimed before.clock.moments passages mid.clock.moments in
        let P : List Passage → Type 0 = λ passages. Served passages old room before.disk disk in
        record {
          asked = asked_other others (Called request passage) (Called request again) (λ is. is) so_far.asked;
          input = λ told. subst Q requests_again (so_far.input told);
          moments = λ told. subst T (sym (passages_called others request again))
              (timed_other before.clock.moments mid.clock.moments (passages_of others) passage again refl
              (subst T (passages_called others request passage) (so_far.moments told)));
          out = λ told. so_far.out told ∙ ap (λ (text : List ℕ). before.out.written ++ text) text_again;
          stays = record {
            input = so_far.stays.input;
            out = so_far.stays.out;
            clock = so_far.stays.clock;
            input_tells = so_far.stays.input_tells;
            out_tells = so_far.stays.out_tells;
            clock_tells = so_far.stays.clock_tells;
          };
          served = subst P (sym (passages_called others request again)) served_again;
        }

    pub reopened_opens : IsTrue room.is_open
    reopened_opens = let O : RoomView → Type 0 = λ one. IsTrue one.is_open in subst O (sym opened.room_is) refl

-- ---- whichever it was

-- some exchange was answered, and isn't written yet
pub record SomeAnswered (others : List Exchange) (reply : Reply) (old new : RoomView) (before now : Around) (bytes : List ℕ) (allowed : ℕ) : Type 0 where
  pub last : Exchange
  pub answered : Answered others last reply old new before now bytes allowed

-- some exchange was made, and its reply is written
pub record SomeWritten (others : List Exchange) (old new : RoomView) (before now : Around) (bytes : List ℕ) (allowed : ℕ) : Type 0 where
  pub last : Exchange
  pub so_far : SoFar (others ++ last ∷ []) old new before now bytes allowed
  pub is_last : IsLast last new

-- so many exchanges were made, and the room is open
pub record Going (count : ℕ) (old new : RoomView) (before now : Around) (bytes : List ℕ) (allowed : ℕ) : Type 0 where
  pub exchanges : List Exchange
  pub counted : length exchanges ≡ count
  pub opens : IsTrue new.is_open
  pub so_far : SoFar exchanges old new before now bytes allowed

pub some_written : (others : List Exchange) (reply : Reply) (old new : RoomView) (before mid : Around) (bytes : List ℕ) (allowed : ℕ)
    → SomeAnswered others reply old new before mid bytes allowed → (out : SinkView) → mid.out.faults ≤ out.faults → out.tells ≡ mid.out.tells
    → Told mid.out.tells (out.written ≡ mid.out.written ++ reply_bytes reply)
    → SomeWritten others old new before (around mid.input out mid.clock mid.disk) bytes allowed
some_written others reply old new before mid bytes allowed some out later tells sent = record {
  last = some.last;
  so_far = written_one others some.last reply old new before mid bytes allowed some.answered out later tells sent;
  is_last = some.answered.is_last;
}

one_longer : (others : List Exchange) (last : Exchange) → length (others ++ last ∷ []) ≡ length others + 1
one_longer others last = length-append others (last ∷ [])

-- the room was open
pub going_open : (count : ℕ) (others : List Exchange) (old new : RoomView) (before now : Around) (bytes : List ℕ) (allowed : ℕ) → length others ≡ count
    → IsTrue new.is_open → SomeWritten others old new before now bytes allowed → Going (count + 1) old new before now bytes allowed
going_open count others old new before now bytes allowed counted opens some = record {
  exchanges = others ++ some.last ∷ [];
  counted = one_longer others some.last ∙ ap (λ (n : ℕ). n + 1) counted;
  opens = opens;
  so_far = some.so_far;
}

-- it was opened again
module _ (count : ℕ) (others : List Exchange) (old shut : RoomView) (before mid : Around) (bytes : List ℕ) (allowed : ℕ) (counted : length others ≡ count)
    (closed : shut.is_open ≡ false) (room : RoomView) (disk : DiskView) (is_disk : IsDisk mid.disk) (opened : IsOpenedBy room mid.disk disk)
    (quiet : OpensQuietly mid.disk disk) where
  going_from : (last : Exchange) → SoFar (others ++ last ∷ []) old shut before mid bytes allowed → IsLast last shut
      → Going (count + 1) old room before (around mid.input mid.out mid.clock disk) bytes allowed
  going_from (Refused request refusal) so_far is_last =
      let different : true ≡ false = sym is_last ∙ closed in absurd (cc different)
  going_from (Called request passage) so_far is_last = record {
    exchanges = others ++ Called request (again others request passage old shut before mid bytes allowed so_far is_last closed room disk is_disk opened quiet) ∷ [];
    counted = one_longer others _ ∙ ap (λ (n : ℕ). n + 1) counted;
    opens = reopened_opens others request passage old shut before mid bytes allowed so_far is_last closed room disk is_disk opened quiet;
    so_far = reopened_so_far others request passage old shut before mid bytes allowed so_far is_last closed room disk is_disk opened quiet;
  }

  pub going_closed : SomeWritten others old shut before mid bytes allowed → Going (count + 1) old room before (around mid.input mid.out mid.clock disk) bytes allowed
  going_closed some = going_from some.last some.so_far some.is_last

-- an open room or a closed one
pub open_or_closed : (is_open : Bool) → IsTrue is_open ⊎ (is_open ≡ false)
open_or_closed true = inl refl
open_or_closed false = inr refl
