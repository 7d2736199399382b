use Rattle.room_effects.specs.Reopening.{IsSpelled}
use Rattle.room_effects.proofs.Opening.{blank_is_journal, blank_is_of, blank_reopens, no_journal, opened_is_ready, opened_is_room}
use Rattle.room_effects.proofs.rooms.an_opened_room_is_ready.Goals as goal

pub returns : goal.returns
returns g c =
    let disk = g.D.Store.view c.args.disk.now in
    record {
      is = opened_is_room;
      ready = λ catalogue journal is. opened_is_ready catalogue journal disk is;
      blank = λ spelling catalogue blank held is none. (
        opened_is_room catalogue no_journal held (blank_is_of catalogue is none),
        opened_is_ready catalogue no_journal disk (blank_is_journal disk blank),
        blank_reopens (IsSpelled spelling) disk catalogue blank is none,
      );
    }
