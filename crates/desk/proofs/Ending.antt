-- How a desk with an open room ends.
use Rattle.std.proofs.Common.{◌≡◌, ℕ, ◌≤◌, inl, inr, Bool, false, IsTrue, List, [], ◌∷◌, ◌++◌, length, refl, sym, ◌∙◌, subst, arith}
use Rattle.std.specs.Prelude.{Err}
use Rattle.room_base.specs.Faults.{Rose}
use Rattle.room_base.specs.Outside.{AddsFront, ClockView, SinkView, SourceView, Told}
use Rattle.room_command.specs.declared.reply.Reply.{Reply}
use Rattle.room_disk.specs.Disk.{DiskView}
use Rattle.room_effects.specs.View.{RoomView}
use Rattle.desk_request.specs.Requests.{RequestText}
use Rattle.desk_reply.specs.Replies.{reply_bytes}
use Rattle.desk.specs.Exchanges.{Exchange, answer_text, passages_of, requests_of}
use Rattle.desk.specs.Limits.{input_limit}
use Rattle.desk.specs.Next.{IsReadingEnd, ReadsNext}
use Rattle.desk.specs.Runs.{Around, FailsBeside, FailsToOpen, HasEnded, HasWritten, IsLeft, Serves, Stays, WritesAll, around}
use Rattle.desk.specs.Steps.{OpensQuietly, Sends}
use Rattle.desk.specs.Taken.{AsksCommand, HasRead, HasTaken}
use Rattle.desk.specs.declared.end.DeskEnd.{DeskEnd}
use Rattle.desk.specs.declared.end.DeskEnd.TheVariants as ends
use Rattle.desk.proofs.Opened.{served_quietly}
use Rattle.desk.proofs.SoFar.{Answered, SoFar, last_text, stays_out, still}
use Rattle.desk.proofs.Taken.{are_first, limit_reached, reading_ended, stopped, untimed}

-- ---- a room that can't be opened

pub not_opened_input : (requests : List RequestText) (old mid : SourceView) (bytes : List ℕ) (allowed : ℕ) (end : DeskEnd) (was now : DiskView) → FailsToOpen end was now
    → HasRead requests old mid bytes allowed → HasTaken end requests old mid
not_opened_input requests old mid bytes allowed ends.Memory was now fails read =
    stopped requests old mid bytes allowed read ends.Memory (are_first requests old mid bytes allowed read)
not_opened_input requests old mid bytes allowed ends.DiskFault was now fails read =
    stopped requests old mid bytes allowed read ends.DiskFault (are_first requests old mid bytes allowed read)
not_opened_input requests old mid bytes allowed (ends.DamagedJournal file place) was now fails read =
    stopped requests old mid bytes allowed read (ends.DamagedJournal file place) (are_first requests old mid bytes allowed read)
not_opened_input requests old mid bytes allowed ends.Done was now fails read = absurd fails
not_opened_input requests old mid bytes allowed (ends.BadInput offset) was now fails read = absurd fails
not_opened_input requests old mid bytes allowed ends.InputLimit was now fails read = absurd fails
not_opened_input requests old mid bytes allowed ends.ReadFault was now fails read = absurd fails
not_opened_input requests old mid bytes allowed ends.WriteFault was now fails read = absurd fails
not_opened_input requests old mid bytes allowed ends.ClockFault was now fails read = absurd fails

pub not_opened_out : (exchanges : List Exchange) (old new : List ℕ) (end : DeskEnd) (was now : DiskView) → FailsToOpen end was now → WritesAll exchanges old new
    → HasWritten end exchanges old new
not_opened_out exchanges old new ends.Memory was now fails all = inl all
not_opened_out exchanges old new ends.DiskFault was now fails all = all
not_opened_out exchanges old new (ends.DamagedJournal file place) was now fails all = all
not_opened_out exchanges old new ends.Done was now fails all = absurd fails
not_opened_out exchanges old new (ends.BadInput offset) was now fails all = absurd fails
not_opened_out exchanges old new ends.InputLimit was now fails all = absurd fails
not_opened_out exchanges old new ends.ReadFault was now fails all = absurd fails
not_opened_out exchanges old new ends.WriteFault was now fails all = absurd fails
not_opened_out exchanges old new ends.ClockFault was now fails all = absurd fails

-- ---- while a request is read

module _ (exchanges : List Exchange) (old room : RoomView) (before mid : Around) (bytes : List ℕ) (allowed : ℕ) (so_far : SoFar exchanges old room before mid bytes allowed) where
  -- a count that rose later rose
  rose_later : (earlier then count : ℕ) → earlier ≤ then → Rose then count → Rose earlier count
  rose_later earlier then count later rose = omega (arith, later, rose)

  stays_input : (input : SourceView) → mid.input.faults ≤ input.faults → input.tells ≡ mid.input.tells → Stays before (around input mid.out mid.clock mid.disk)
  stays_input input later tells = record {
    input = omega (arith, so_far.stays.input, later);
    out = so_far.stays.out;
    clock = so_far.stays.clock;
    input_tells = tells ∙ so_far.stays.input_tells;
    out_tells = so_far.stays.out_tells;
    clock_tells = so_far.stays.clock_tells;
  }

  all_written : (end : DeskEnd) → IsReadingEnd end → WritesAll exchanges before.out.written mid.out.written
      → HasWritten end exchanges before.out.written mid.out.written
  all_written ends.Done is all = all
  all_written (ends.BadInput offset) is all = all
  all_written ends.InputLimit is all = all
  all_written ends.ReadFault is all = all
  all_written ends.Memory is all = inl all
  all_written ends.WriteFault is all = absurd is
  all_written ends.DiskFault is all = absurd is
  all_written (ends.DamagedJournal file place) is all = absurd is
  all_written ends.ClockFault is all = absurd is

  reading_cause : (end : DeskEnd) (now : Around) → IsReadingEnd end → (end ≡ ends.ReadFault → Rose before.input.faults now.input.faults) → HasEnded end before now
  reading_cause ends.Done now is cause = tt
  reading_cause (ends.BadInput offset) now is cause = tt
  reading_cause ends.InputLimit now is cause = tt
  reading_cause ends.ReadFault now is cause = cause refl
  reading_cause ends.Memory now is cause = tt
  reading_cause ends.WriteFault now is cause = absurd is
  reading_cause ends.DiskFault now is cause = absurd is
  reading_cause (ends.DamagedJournal file place) now is cause = absurd is
  reading_cause ends.ClockFault now is cause = absurd is

  reading_left : (end : DeskEnd) (is_open : Bool) → IsReadingEnd end → IsTrue is_open → IsLeft end is_open
  reading_left ends.Done is_open is opens = opens
  reading_left (ends.BadInput offset) is_open is opens = opens
  reading_left ends.InputLimit is_open is opens = opens
  reading_left ends.ReadFault is_open is opens = opens
  reading_left ends.Memory is_open is opens = tt
  reading_left ends.WriteFault is_open is opens = absurd is
  reading_left ends.DiskFault is_open is opens = absurd is
  reading_left (ends.DamagedJournal file place) is_open is opens = absurd is
  reading_left ends.ClockFault is_open is opens = absurd is

  reading_beside : (end : DeskEnd) (now : Around) → IsReadingEnd end → FailsBeside end (passages_of exchanges) old before.disk now.disk
  reading_beside ends.Done now is = tt
  reading_beside (ends.BadInput offset) now is = tt
  reading_beside ends.InputLimit now is = tt
  reading_beside ends.ReadFault now is = tt
  reading_beside ends.Memory now is = tt
  reading_beside ends.WriteFault now is = absurd is
  reading_beside ends.DiskFault now is = absurd is
  reading_beside (ends.DamagedJournal file place) now is = absurd is
  reading_beside ends.ClockFault now is = absurd is

  -- no request was read
  pub ended_reading : (input : SourceView) (rest : List ℕ) (after : ℕ) (end : DeskEnd) → IsTrue room.is_open → mid.input.faults ≤ input.faults
      → input.tells ≡ mid.input.tells → IsReadingEnd end → (end ≡ ends.ReadFault → Rose mid.input.faults input.faults)
      → Told mid.input.tells (ReadsNext mid.input input bytes rest allowed after (Err end))
      → Serves end old room before (around input mid.out mid.clock mid.disk)
  ended_reading input rest after end opens later tells is cause read = record {
    exchanges = exchanges;
    trades = record {
      asked = so_far.asked;
      input = λ told. reading_ended (requests_of exchanges) before.input mid.input bytes allowed (so_far.input told) input rest after end
          (read (still before.input.tells mid.input.tells so_far.stays.input_tells told));
      moments = so_far.moments;
      out = λ told. all_written end is (so_far.out told);
      stays = stays_input input later tells;
      ended = reading_cause end (around input mid.out mid.clock mid.disk) is
          (λ same. rose_later before.input.faults mid.input.faults input.faults so_far.stays.input (cause same));
    };
    served = so_far.served;
    left = reading_left end room.is_open is opens;
    beside = reading_beside end (around input mid.out mid.clock mid.disk) is;
  }

  -- there was no moment for a request
  pub ended_untimed : (input : SourceView) (clock : ClockView) (rest : List ℕ) (after : ℕ) (request : RequestText) → AsksCommand request
      → IsTrue room.is_open → mid.input.faults ≤ input.faults → input.tells ≡ mid.input.tells
      → Told before.input.tells (HasRead (requests_of exchanges ++ request ∷ []) before.input input rest after)
      → mid.clock.faults ≤ clock.faults → clock.tells ≡ mid.clock.tells → Rose mid.clock.faults clock.faults
      → Told mid.clock.tells (clock.moments ≡ mid.clock.moments)
      → Serves ends.ClockFault old room before (around input mid.out clock mid.disk)
  ended_untimed input clock rest after request asks opens later tells read clock_later clock_tells rose same = record {
    exchanges = exchanges;
    trades = record {
      asked = so_far.asked;
      input = λ told. untimed (requests_of exchanges) request before.input input rest after asks (read told);
      moments = λ told. (let stands = same (still before.clock.tells mid.clock.tells so_far.stays.clock_tells told) in
          rw stands (so_far.moments told));
      out = so_far.out;
      stays = record {
        input = omega (arith, so_far.stays.input, later);
        out = so_far.stays.out;
        clock = omega (arith, so_far.stays.clock, clock_later);
        input_tells = tells ∙ so_far.stays.input_tells;
        out_tells = so_far.stays.out_tells;
        clock_tells = clock_tells ∙ so_far.stays.clock_tells;
      };
      ended = rose_later before.clock.faults mid.clock.faults clock.faults so_far.stays.clock rose;
    };
    served = so_far.served;
    left = opens;
    beside = tt;
  }

  -- as many requests were read as there may be
  pub ended_full : IsTrue room.is_open → length exchanges ≡ input_limit → Serves ends.InputLimit old room before mid
  ended_full opens full = record {
    exchanges = exchanges;
    trades = record {
      asked = so_far.asked;
      input = λ told. limit_reached (requests_of exchanges) before.input mid.input bytes allowed (so_far.input told) (same_length exchanges ∙ full);
      moments = so_far.moments;
      out = so_far.out;
      stays = so_far.stays;
      ended = tt;
    };
    served = so_far.served;
    left = opens;
    beside = tt;
  } where
    same_length : (list : List Exchange) → length (requests_of list) ≡ length list
    same_length [] = refl
    same_length (one ∷ more) = omega (arith, same_length more)

  -- ---- the room wasn't opened again

  not_opened_cause : (end : DeskEnd) (now : Around) → FailsToOpen end mid.disk now.disk → HasEnded end before now
  not_opened_cause ends.Memory now fails = tt
  not_opened_cause ends.DiskFault now fails =
      let least = so_far.served.faults fails.0 in
      (fails.0, fails.1, omega (arith, least, fails.2))
  not_opened_cause (ends.DamagedJournal file place) now fails = λ told. fails (still before.disk.tells mid.disk.tells so_far.served.tells told)
  not_opened_cause ends.Done now fails = tt
  not_opened_cause (ends.BadInput offset) now fails = tt
  not_opened_cause ends.InputLimit now fails = tt
  not_opened_cause ends.ReadFault now fails = absurd fails
  not_opened_cause ends.WriteFault now fails = absurd fails
  not_opened_cause ends.ClockFault now fails = absurd fails

  not_opened_left : (end : DeskEnd) (was now : DiskView) (is_open : Bool) → FailsToOpen end was now → is_open ≡ false → IsLeft end is_open
  not_opened_left ends.Memory was now is_open fails closed = tt
  not_opened_left ends.DiskFault was now is_open fails closed = closed
  not_opened_left (ends.DamagedJournal file place) was now is_open fails closed = closed
  not_opened_left ends.Done was now is_open fails closed = absurd fails
  not_opened_left (ends.BadInput offset) was now is_open fails closed = absurd fails
  not_opened_left ends.InputLimit was now is_open fails closed = absurd fails
  not_opened_left ends.ReadFault was now is_open fails closed = absurd fails
  not_opened_left ends.WriteFault was now is_open fails closed = absurd fails
  not_opened_left ends.ClockFault was now is_open fails closed = absurd fails

  not_opened_beside : (end : DeskEnd) (now : DiskView) → FailsToOpen end mid.disk now → FailsBeside end (passages_of exchanges) old before.disk now
  not_opened_beside ends.Memory now fails = tt
  not_opened_beside ends.DiskFault now fails =
      let least = so_far.served.faults fails.0 in
      (fails.0, fails.1, omega (arith, least, fails.2))
  not_opened_beside (ends.DamagedJournal file place) now fails = tt
  not_opened_beside ends.Done now fails = tt
  not_opened_beside (ends.BadInput offset) now fails = tt
  not_opened_beside ends.InputLimit now fails = tt
  not_opened_beside ends.ReadFault now fails = tt
  not_opened_beside ends.WriteFault now fails = tt
  not_opened_beside ends.ClockFault now fails = tt

  pub ended_closed : (end : DeskEnd) (disk : DiskView) → room.is_open ≡ false → FailsToOpen end mid.disk disk → OpensQuietly mid.disk disk
      → Serves end old room before (around mid.input mid.out mid.clock disk)
  ended_closed end disk closed fails quiet = record {
    exchanges = exchanges;
    trades = record {
      asked = so_far.asked;
      input = λ told. not_opened_input (requests_of exchanges) before.input mid.input bytes allowed end mid.disk disk fails (so_far.input told);
      moments = so_far.moments;
      out = λ told. not_opened_out exchanges before.out.written mid.out.written end mid.disk disk fails (so_far.out told);
      stays = record {
        input = so_far.stays.input;
        out = so_far.stays.out;
        clock = so_far.stays.clock;
        input_tells = so_far.stays.input_tells;
        out_tells = so_far.stays.out_tells;
        clock_tells = so_far.stays.clock_tells;
      };
      ended = not_opened_cause end (around mid.input mid.out mid.clock disk) fails;
    };
    served = served_quietly (passages_of exchanges) old room before.disk mid.disk disk so_far.served quiet;
    left = not_opened_left end mid.disk disk room.is_open fails closed;
    beside = not_opened_beside end disk fails;
  }

-- ---- a reply wasn't written

module _ (others : List Exchange) (last : Exchange) (reply : Reply) (old new : RoomView) (before mid : Around) (bytes : List ℕ) (allowed : ℕ)
    (answered : Answered others last reply old new before mid bytes allowed) where
  abbrev all : List Exchange
  all = others ++ last ∷ []

  pub ended_sending : (end : DeskEnd) (out : SinkView) → mid.out.faults ≤ out.faults → out.tells ≡ mid.out.tells
      → Sends (reply_bytes reply) mid.out out (Err end) → Serves end old new before (around mid.input out mid.clock mid.disk)
  ended_sending ends.Memory out later tells sent = record {
    exchanges = all;
    trades = record {
      asked = answered.asked;
      input = λ told. stopped (requests_of all) before.input mid.input bytes allowed (answered.input told) ends.Memory
          (are_first (requests_of all) before.input mid.input bytes allowed (answered.input told));
      moments = answered.moments;
      out = λ told. inr (record {
        others = others;
        last = last;
        parts = refl;
        written = sent (still before.out.tells mid.out.tells answered.stays.out_tells told) ∙ answered.out told;
      });
      stays = stays_out others last reply old new before mid bytes allowed answered out later tells;
      ended = tt;
    };
    served = answered.served;
    left = tt;
    beside = tt;
  }
  ended_sending ends.WriteFault out later tells sent = record {
    exchanges = all;
    trades = record {
      asked = answered.asked;
      input = λ told. stopped (requests_of all) before.input mid.input bytes allowed (answered.input told) ends.WriteFault
          (are_first (requests_of all) before.input mid.input bytes allowed (answered.input told));
      moments = answered.moments;
      out = λ told. (let front = sent.1 (still before.out.tells mid.out.tells answered.stays.out_tells told) in
          let A : List ℕ → Type 0 = λ start. AddsFront start out.written (answer_text last) in
          let B : List ℕ → Type 0 = λ text. AddsFront mid.out.written out.written text in
          record {
            others = others;
            last = last;
            parts = refl;
            front = subst A (answered.out told) (subst B (sym (last_text others last reply old new before mid bytes allowed answered)) front);
          });
      stays = stays_out others last reply old new before mid bytes allowed answered out later tells;
      ended = (let later_mid = answered.stays.out in let rose = sent.0 in omega (arith, later_mid, rose));
    };
    served = answered.served;
    left = tt;
    beside = tt;
  }
  ended_sending ends.Done out later tells sent = absurd sent
  ended_sending (ends.BadInput offset) out later tells sent = absurd sent
  ended_sending ends.InputLimit out later tells sent = absurd sent
  ended_sending ends.ReadFault out later tells sent = absurd sent
  ended_sending ends.DiskFault out later tells sent = absurd sent
  ended_sending (ends.DamagedJournal file place) out later tells sent = absurd sent
  ended_sending ends.ClockFault out later tells sent = absurd sent
