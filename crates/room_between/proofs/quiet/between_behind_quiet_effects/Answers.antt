use Rattle.room_between.proofs.Quieting.{between_committed, between_entered, between_labelled, between_looked, between_part, between_put_in, between_taken_out, between_turned}
use Rattle.room_between.proofs.quiet.between_behind_quiet_effects.Goals as goal

pub returns : goal.returns
returns c = record {
  enter = between_entered;
  part = between_part;
  turn_over = between_turned;
  commit = between_committed;
  look = between_looked;
  write_label = between_labelled;
  put_in = between_put_in;
  take_out = between_taken_out;
}
