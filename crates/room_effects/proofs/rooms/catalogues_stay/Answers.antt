use Rattle.room_effects.proofs.Holding.{held_after}
use Rattle.room_effects.proofs.rooms.catalogues_stay.Goals as goal

pub returns : goal.returns
returns c = λ m change lists memory held ascend whole stamped fits parts_fit ready.
    held_after m change lists memory whole
    (record { held = held; ascend = ascend; stamped = stamped; fits = fits; parts_fit = parts_fit; ready = ready })
