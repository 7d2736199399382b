use Rattle.std.proofs.Common.{◌∙◌, ap, subst, sym}
use Rattle.std.proofs.lemmas.Cmp.{nat_cmp_total}
use Rattle.room_base.proofs.OrderedUpdates.{removed_at, none_removed}
use Rattle.client_index.specs.Sets.{Indexes, AreOrdered, number_of}
use Rattle.client_index.proofs.Putting.{forget_ordered}
use Rattle.client_index.proofs.index.ClientIndex.forget.Goals as goal

pub invariant_of-self : goal.invariant_of-self
invariant_of-self c =
    let is = ap (λ (index : Indexes). index.sets) c.self.view_is in
    let place = rw (← is) at c.in-Ok.ensures in
    let removed = c.remove.ensures.items ∙ removed_at nat_cmp_total number_of c.args.ssid.0 _ c.in-Ok.at c.self.invariant.numbers place in
    subst AreOrdered (sym removed) (forget_ordered _ c.args.ssid c.self.invariant)

pub returns-in-Ok-clause-sets : goal.returns-in-Ok-clause-sets
returns-in-Ok-clause-sets c =
    let is = ap (λ (index : Indexes). index.sets) c.self.view_is in
    let place = rw (← is) at c.in-Ok.ensures in
    rw (← is) (c.remove.ensures.items ∙ removed_at nat_cmp_total number_of c.args.ssid.0 _ c.in-Ok.at c.self.invariant.numbers place)

pub returns-in_default-clause-sets : goal.returns-in_default-clause-sets
returns-in_default-clause-sets c = none_removed nat_cmp_total number_of c.args.ssid.0 _ c.in_default.field-0 c.in_default.ensures
