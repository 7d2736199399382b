use Rattle.std.proofs.Common.{◌∙◌, sym, subst}
use Rattle.std.specs.Ordering.{nat_cmp}
use Rattle.std.proofs.lemmas.Cmp.{nat_cmp_total}
use Rattle.room_base.specs.Ordered.{Ascends}
use Rattle.room_base.proofs.OrderedUpdates.{ascends_removed, none_removed, removed_at}
use Rattle.catalog_change.specs.Catalogues.{slot_number}
use Rattle.room_catalog.proofs.slots.Slots.empty.Goals as goal

pub invariant_of-self : goal.invariant_of-self
invariant_of-self c =
    let place = rw c.deref.ensures.value at c.in-Ok.ensures in
    let gone = c.remove.ensures.items ∙ removed_at nat_cmp_total slot_number c.args.slot c.self.inside.filled.items c.in-Ok.at c.self.invariant place in
    subst (Ascends nat_cmp slot_number) (sym gone) (ascends_removed nat_cmp_total slot_number c.args.slot _ c.self.invariant)

pub returns-in-Ok-clause-slots : goal.returns-in-Ok-clause-slots
returns-in-Ok-clause-slots c =
    let place = rw c.deref.ensures.value at c.in-Ok.ensures in
    rw (← c.self.view_is) (c.remove.ensures.items ∙ removed_at nat_cmp_total slot_number c.args.slot c.self.inside.filled.items c.in-Ok.at c.self.invariant place)

pub returns-in_default-clause-slots : goal.returns-in_default-clause-slots
returns-in_default-clause-slots c =
    let gap = rw c.deref.ensures.value at c.in_default.ensures in
    rw (← c.self.view_is) (none_removed nat_cmp_total slot_number c.args.slot c.self.inside.filled.items _ gap)
