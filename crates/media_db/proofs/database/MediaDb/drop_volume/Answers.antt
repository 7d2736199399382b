use Rattle.std.proofs.Common.{◌∙◌, sym, subst}
use Rattle.std.proofs.lemmas.Cmp.{nat_cmp_total}
use Rattle.room_base.proofs.OrderedUpdates.{ascends_removed, removed_at, none_removed}
use Rattle.media_db.specs.Rows.{AreVolumes, volid_of}
use Rattle.media_db.proofs.database.MediaDb.drop_volume.Goals as goal

pub invariant_of-self : goal.invariant_of-self
invariant_of-self c =
    let place = rw c.deref.ensures.value at c.in-Ok.ensures in
    let gone = c.remove.ensures.items ∙ removed_at nat_cmp_total volid_of c.args.volid.0 c.self.inside.volumes.items c.in-Ok.at c.self.invariant.1 place in
    (c.self.invariant.0, subst AreVolumes (sym gone) (ascends_removed nat_cmp_total volid_of c.args.volid.0 _ c.self.invariant.1))

pub returns-in-Ok-clause-volumes : goal.returns-in-Ok-clause-volumes
returns-in-Ok-clause-volumes c =
    let place = rw c.deref.ensures.value at c.in-Ok.ensures in
    rw (← c.self.view_is) (c.remove.ensures.items ∙ removed_at nat_cmp_total volid_of c.args.volid.0 c.self.inside.volumes.items c.in-Ok.at c.self.invariant.1 place)

pub returns-in_default-clause-volumes : goal.returns-in_default-clause-volumes
returns-in_default-clause-volumes c =
    let gap = rw c.deref.ensures.value at c.in_default.ensures in
    rw (← c.self.view_is) (none_removed nat_cmp_total volid_of c.args.volid.0 c.self.inside.volumes.items _ gap)
