use Rattle.media_db.proofs.Listed.{least_on}
use Rattle.media_db.proofs.laws.least_on_a_cartridge.Goals as goal

pub returns : goal.returns
returns c = λ volumes cart up. least_on cart volumes up
