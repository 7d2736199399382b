use Rattle.room_effects.proofs.Staying.{stays_close, stays_commit, stays_open, stays_push, stays_put_in, stays_take, stays_take_out}
use Rattle.room_effects.proofs.StayingJournal.{stays_enter, stays_enter_part, stays_turn_over}
use Rattle.room_effects.proofs.rooms.rooms_stay.Goals as goal

pub returns : goal.returns
returns c = record {
  enter = stays_enter;
  part = stays_enter_part;
  turn_over = stays_turn_over;
  commit = stays_commit;
  push = stays_push;
  put_in = stays_put_in;
  take_out = stays_take_out;
  begins = stays_open;
  take = stays_take;
  close = stays_close;
}
