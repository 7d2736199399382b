use Rattle.slot_changer.proofs.Pushing.{pack_some}
use Rattle.slot_changer.proofs.laws.pushed_can_be_committed.Goals as goal

pub returns-clause-pushed : goal.returns-clause-pushed
returns-clause-pushed c one ssid copy offset piece whole some = record {
  some = pack_some one.buffer ssid copy offset piece some;
  no_fault = whole;
}
