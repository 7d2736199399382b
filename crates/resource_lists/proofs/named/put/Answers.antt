use Rattle.std.proofs.Common.{◌∙◌, sym, subst}
use Rattle.std.specs.Ordering.{nat_cmp}
use Rattle.std.specs.Cmp.Lexicographic.{slice_cmp, nat_list_cmp_total}
use Rattle.room_base.specs.Ordered.{Ascends}
use Rattle.room_base.proofs.OrderedUpdates.{ascends_put, put_at, put_between}
use Rattle.resource_lists.proofs.named.put.Goals as goal

pub returns-in-Ok-clause-items : goal.returns-in-Ok-clause-items
returns-in-Ok-clause-items g c =
    let place = rw (c.deref.ensures.value, c.as_bytes.ensures.value, c.name.ensures) at c.in-Ok.ensures in
    put_at nat_list_cmp_total g.T.Named.key c.args.items.now.items c.args.item c.in-Ok.at c.requires.ordered place

pub returns-in-Ok-clause-order : goal.returns-in-Ok-clause-order
returns-in-Ok-clause-order g c =
    subst (Ascends (slice_cmp nat_cmp) g.T.Named.key) (sym (returns-in-Ok-clause-items g c)) (ascends_put nat_list_cmp_total g.T.Named.key c.args.items.now.items c.args.item c.requires.ordered)

pub returns-in-Err-clause-items : goal.returns-in-Err-clause-items
returns-in-Err-clause-items g c =
    let place = rw (c.deref.ensures.value, c.as_bytes.ensures.value, c.name.ensures) at c.in-Err.ensures in
    c.insert_in_room.ensures.items ∙ put_between nat_list_cmp_total g.T.Named.key c.args.items.now.items c.args.item c.in-Err.at place

pub returns-in-Err-clause-order : goal.returns-in-Err-clause-order
returns-in-Err-clause-order g c =
    subst (Ascends (slice_cmp nat_cmp) g.T.Named.key) (sym (returns-in-Err-clause-items g c)) (ascends_put nat_list_cmp_total g.T.Named.key c.args.items.now.items c.args.item c.requires.ordered)
