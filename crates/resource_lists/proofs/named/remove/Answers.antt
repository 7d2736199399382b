use Rattle.std.proofs.Common.{◌∙◌, sym, subst}
use Rattle.std.specs.Ordering.{nat_cmp}
use Rattle.std.specs.Cmp.Lexicographic.{slice_cmp, nat_list_cmp_total}
use Rattle.room_base.specs.Ordered.{Ascends}
use Rattle.room_base.proofs.OrderedUpdates.{ascends_removed, none_removed, removed_at}
use Rattle.resource_lists.proofs.named.remove.Goals as goal

pub returns-in-Ok-clause-items : goal.returns-in-Ok-clause-items
returns-in-Ok-clause-items g c =
    let place = rw c.deref.ensures.value at c.in-Ok.ensures in
    c.remove.ensures.items ∙ removed_at nat_list_cmp_total g.T.Named.key c.args.name.now c.args.items.now.items c.in-Ok.at c.requires.ordered place

pub returns-in-Ok-clause-order : goal.returns-in-Ok-clause-order
returns-in-Ok-clause-order g c =
    subst (Ascends (slice_cmp nat_cmp) g.T.Named.key) (sym (returns-in-Ok-clause-items g c)) (ascends_removed nat_list_cmp_total g.T.Named.key c.args.name.now c.args.items.now.items c.requires.ordered)

pub returns-in_default-clause-items : goal.returns-in_default-clause-items
returns-in_default-clause-items g c =
    let gap = rw c.deref.ensures.value at c.in_default.ensures in
    none_removed nat_list_cmp_total g.T.Named.key c.args.name.now c.args.items.now.items _ gap
