use Rattle.room_between.proofs.Quieting.{between_asked, between_broken, between_shut}
use Rattle.room_between.proofs.faults.between_behind_a_fault.Goals as goal

pub returns : goal.returns
returns c = record { broken = between_broken; commit = between_asked; shut = between_shut }
