-- The whole run of a desk, from before its room is opened.
use Rattle.std.proofs.Common.{inl, inr, List, [], refl, sym, subst, arith, append-nil}
use Rattle.room_base.specs.Outside.{Told}
use Rattle.room_disk.specs.Disk.{DiskView, IsDisk}
use Rattle.room_disk.proofs.Runs.{quiet_none}
use Rattle.room_effects.specs.View.{RoomView, opened_room}
use Rattle.room_turns.specs.Runs.{Passage}
use Rattle.room_turns.specs.Served.{Leads, Served}
use Rattle.room_core.specs.Opening.{IsOpenedBy}
use Rattle.desk.specs.Exchanges.{passages_of}
use Rattle.desk.specs.Limits.{input_limit}
use Rattle.desk.specs.Runs.{Around, DeskRuns, FailsBeside, FailsToOpen, HasEnded, Serves, around}
use Rattle.desk.specs.Steps.{OpensQuietly}
use Rattle.desk.specs.declared.end.DeskEnd.{DeskEnd}
use Rattle.desk.specs.declared.end.DeskEnd.TheVariants as ends
use Rattle.desk.proofs.Crashes.{run_headline}
use Rattle.desk.proofs.Ending.{not_opened_input, not_opened_out}
use Rattle.desk.proofs.Opened.{leads_from, opened_servable, served_from}
use Rattle.desk.proofs.SoFar.{still}
use Rattle.desk.proofs.Taken.{none_read}

-- ---- the room wasn't opened

pub quietly_none : (disk : DiskView) → OpensQuietly disk disk
quietly_none disk = record { tells = refl; later = λ file. omega arith; quiet = λ told. quiet_none disk }

ended_at_once : (end : DeskEnd) (before now : Around) → FailsToOpen end before.disk now.disk → HasEnded end before now
ended_at_once ends.Memory before now fails = tt
ended_at_once ends.DiskFault before now fails = fails
ended_at_once (ends.DamagedJournal file place) before now fails = fails
ended_at_once ends.Done before now fails = tt
ended_at_once (ends.BadInput offset) before now fails = tt
ended_at_once ends.InputLimit before now fails = tt
ended_at_once ends.ReadFault before now fails = absurd fails
ended_at_once ends.WriteFault before now fails = absurd fails
ended_at_once ends.ClockFault before now fails = absurd fails

pub runs_unopened : (end : DeskEnd) (before : Around) (disk : DiskView) → FailsToOpen end before.disk disk → OpensQuietly before.disk disk
    → DeskRuns end before (around before.input before.out before.clock disk)
runs_unopened end before disk fails quiet = record {
  exchanges = [];
  trades = record {
    asked = tt;
    input = λ told. not_opened_input [] before.input before.input [] input_limit end before.disk disk fails (none_read before.input);
    moments = λ told. refl;
    out = λ told. not_opened_out [] before.out.written before.out.written end before.disk disk fails (sym (append-nil before.out.written));
    stays = record {
      input = omega arith;
      out = omega arith;
      clock = omega arith;
      input_tells = refl;
      out_tells = refl;
      clock_tells = refl;
    };
    ended = ended_at_once end before (around before.input before.out before.clock disk) fails;
  };
  room = inr (record { fails = fails; none = refl; tells = quiet.tells; later = quiet.later; quiet = quiet.quiet });
}

-- ---- it was opened

ended_since : (end : DeskEnd) (before now : Around) (disk : DiskView) → OpensQuietly before.disk disk
    → HasEnded end (around before.input before.out before.clock disk) now → HasEnded end before now
ended_since ends.DiskFault before now disk quiet ended =
    let later = quiet.later ended.0 in
    (ended.0, ended.1, omega (arith, later, ended.2))
ended_since (ends.DamagedJournal file place) before now disk quiet ended = λ told. ended (still before.disk.tells disk.tells quiet.tells told)
ended_since ends.Memory before now disk quiet ended = tt
ended_since ends.Done before now disk quiet ended = tt
ended_since (ends.BadInput offset) before now disk quiet ended = tt
ended_since ends.InputLimit before now disk quiet ended = tt
ended_since ends.ReadFault before now disk quiet ended = ended
ended_since ends.WriteFault before now disk quiet ended = ended
ended_since ends.ClockFault before now disk quiet ended = ended

beside_since : (end : DeskEnd) (passages : List Passage) (room : RoomView) (before disk now : DiskView) → OpensQuietly before disk
    → FailsBeside end passages room disk now → FailsBeside end passages room before now
beside_since ends.DiskFault passages room before disk now quiet fails =
    let later = quiet.later fails.0 in
    (fails.0, fails.1, omega (arith, later, fails.2))
beside_since (ends.DamagedJournal file place) passages room before disk now quiet fails = tt
beside_since ends.Memory passages room before disk now quiet fails = tt
beside_since ends.Done passages room before disk now quiet fails = tt
beside_since (ends.BadInput offset) passages room before disk now quiet fails = tt
beside_since ends.InputLimit passages room before disk now quiet fails = tt
beside_since ends.ReadFault passages room before disk now quiet fails = tt
beside_since ends.WriteFault passages room before disk now quiet fails = tt
beside_since ends.ClockFault passages room before disk now quiet fails = tt

module _ (end : DeskEnd) (room new : RoomView) (before now : Around) (disk : DiskView) (is_disk : IsDisk before.disk) (opened : IsOpenedBy room before.disk disk) (quiet : OpensQuietly before.disk disk)
    (serves : Serves end room new (around before.input before.out before.clock disk) now) where
  abbrev first : RoomView
  first = opened_room opened.opening.catalogue opened.opening.journal

  served_first : Served (passages_of serves.exchanges) first new disk now.disk
  served_first =
      let S : RoomView → Type 0 = λ one. Served (passages_of serves.exchanges) one new disk now.disk in
      subst S opened.room_is serves.served

  beside_first : FailsBeside end (passages_of serves.exchanges) first disk now.disk
  beside_first =
      let F : RoomView → Type 0 = λ one. FailsBeside end (passages_of serves.exchanges) one disk now.disk in
      subst F opened.room_is serves.beside

  leads_first : Told before.disk.tells (Leads (passages_of serves.exchanges) first new before.disk now.disk)
  leads_first = leads_from (passages_of serves.exchanges) first new before.disk disk now.disk quiet (opened_servable room before.disk disk opened quiet) served_first

  pub runs_opened : DeskRuns end before now
  runs_opened = record {
    exchanges = serves.exchanges;
    trades = record {
      asked = serves.trades.asked;
      input = serves.trades.input;
      moments = serves.trades.moments;
      out = serves.trades.out;
      stays = record {
        input = serves.trades.stays.input;
        out = serves.trades.stays.out;
        clock = serves.trades.stays.clock;
        input_tells = serves.trades.stays.input_tells;
        out_tells = serves.trades.stays.out_tells;
        clock_tells = serves.trades.stays.clock_tells;
      };
      ended = ended_since end before now disk quiet serves.trades.ended;
    };
    room = inl (record {
      opening = opened.opening;
      held = opened.held;
      fits = opened.fits;
      replays = opened.replays;
      room = new;
      served = served_from (passages_of serves.exchanges) first new before.disk disk now.disk quiet (opened_servable room before.disk disk opened quiet) served_first;
      leads = leads_first;
      left = serves.left;
      beside = beside_since end (passages_of serves.exchanges) first before.disk disk now.disk quiet beside_first;
      headline = λ told entry all. run_headline (passages_of serves.exchanges) entry before.disk now.disk is_disk told all opened.opening.catalogue
          opened.opening.journal new (opened.replays told) (leads_first told);
    });
  }
