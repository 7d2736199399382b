use Rattle.room_effects.proofs.StayingJournal.{stays_broken}
use Rattle.room_effects.proofs.rooms.rooms_stay_behind_a_fault.Goals as goal

pub returns : goal.returns
returns c = stays_broken
