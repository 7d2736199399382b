use Rattle.save_session.proofs.Sending.{pieces-join}
use Rattle.save_session.proofs.laws.pieces_join.Goals as goal

pub returns : goal.returns
returns c = λ session pieces reading. pieces-join pieces session reading
