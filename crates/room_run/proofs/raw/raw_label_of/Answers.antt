use Rattle.room_run.proofs.RawLabel.{raw_allowed}
use Rattle.room_run.proofs.raw.raw_label_of.Goals as goal

pub returns-clause-allowed : goal.returns-clause-allowed
returns-clause-allowed c = rw c.from.ensures (raw_allowed c.args.cart.0 c.args.made.0 c.requires.cart c.requires.made)
