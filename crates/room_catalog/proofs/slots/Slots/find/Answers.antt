use Rattle.std.proofs.Common.{sym}
use Rattle.std.proofs.lemmas.Cmp.{nat_cmp_total}
use Rattle.room_base.proofs.OrderedSearch.{found_read, none_at}
use Rattle.catalog_change.specs.Catalogues.{slot_number}
use Rattle.room_catalog.proofs.slots.Slots.find.Goals as goal

pub returns-in-Ok : goal.returns-in-Ok
returns-in-Ok c =
    let place = rw c.deref.ensures.value at c.in-Ok.ensures in
    rw (← c.self.view_is) (sym (found_read nat_cmp_total slot_number c.args.slot c.self.inside.filled.items c.self.invariant c.in-Ok.at place c.index.result.now c.index.ensures))

pub returns-in-Err : goal.returns-in-Err
returns-in-Err c =
    let gap = rw c.deref.ensures.value at c.in-Err.ensures in
    rw (← c.self.view_is) (sym (none_at nat_cmp_total slot_number c.args.slot c.self.inside.filled.items _ gap))
