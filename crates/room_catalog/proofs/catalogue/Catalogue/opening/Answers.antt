use Rattle.room_catalog.proofs.Opening.{opening_held}
use Rattle.room_catalog.proofs.catalogue.Catalogue.opening.Goals as goal

pub invariant_of-result : goal.invariant_of-result
invariant_of-result c = opening_held c.in_ok-resources.resources.lists c.new.result.slots c.new-2.result.volumes c.new-2.result.records c.new-3.result.sets c.new-4.result.parts
    c.in_ok-resources.ensures c.new.ensures c.new-2.ensures.volumes c.new-2.ensures.records c.new-3.ensures c.new-4.ensures
