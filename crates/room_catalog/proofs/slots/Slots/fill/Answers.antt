use Rattle.std.proofs.Common.{◌∙◌, sym, subst}
use Rattle.std.specs.Ordering.{nat_cmp}
use Rattle.std.proofs.lemmas.Cmp.{nat_cmp_total}
use Rattle.room_base.specs.Ordered.{Ascends}
use Rattle.room_base.proofs.OrderedUpdates.{ascends_put, put_at, put_between}
use Rattle.catalog_change.specs.Catalogues.{slot_number}
use Rattle.room_catalog.proofs.slots.Slots.fill.Goals as goal

pub invariant_of-self : goal.invariant_of-self
invariant_of-self c =
    let place = rw c.deref.ensures.value at c.in-Ok.ensures in
    let put = put_at nat_cmp_total slot_number c.self.inside.filled.items c.args.filled c.in-Ok.at c.self.invariant place in
    subst (Ascends nat_cmp slot_number) (sym put) (ascends_put nat_cmp_total slot_number _ c.args.filled c.self.invariant)

pub returns-in-Ok-clause-slots : goal.returns-in-Ok-clause-slots
returns-in-Ok-clause-slots c =
    let place = rw c.deref.ensures.value at c.in-Ok.ensures in
    rw (← c.self.view_is) (put_at nat_cmp_total slot_number c.self.inside.filled.items c.args.filled c.in-Ok.at c.self.invariant place)

pub invariant_of-self-in-Err : goal.invariant_of-self-in-Err
invariant_of-self-in-Err c =
    let gap = rw c.deref.ensures.value at c.in-Err.ensures in
    let put = c.insert_in_room.ensures.items ∙ put_between nat_cmp_total slot_number c.self.inside.filled.items c.args.filled c.in-Err.at gap in
    subst (Ascends nat_cmp slot_number) (sym put) (ascends_put nat_cmp_total slot_number _ c.args.filled c.self.invariant)

pub returns-in-Err-clause-slots : goal.returns-in-Err-clause-slots
returns-in-Err-clause-slots c =
    let gap = rw c.deref.ensures.value at c.in-Err.ensures in
    rw (← c.self.view_is) (c.insert_in_room.ensures.items ∙ put_between nat_cmp_total slot_number c.self.inside.filled.items c.args.filled c.in-Err.at gap)
