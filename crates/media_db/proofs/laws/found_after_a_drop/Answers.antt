use Rattle.media_db.proofs.Dropped.{found_dropped}
use Rattle.media_db.proofs.laws.found_after_a_drop.Goals as goal

pub returns : goal.returns
returns c = λ rows volid ssid are. found_dropped volid ssid rows are.ascending
