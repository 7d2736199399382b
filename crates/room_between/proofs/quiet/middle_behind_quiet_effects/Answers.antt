use Rattle.room_between.proofs.Quieting.{but_committed, but_entered, but_labelled, but_looked, but_part, but_put_in, but_taken_out, but_turned}
use Rattle.room_between.proofs.quiet.middle_behind_quiet_effects.Goals as goal

pub returns : goal.returns
returns c = record {
  enter = but_entered;
  part = but_part;
  turn_over = but_turned;
  commit = but_committed;
  look = but_looked;
  write_label = but_labelled;
  put_in = but_put_in;
  take_out = but_taken_out;
}
