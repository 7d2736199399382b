use Rattle.std.proofs.Common.{◌∙◌, sym, subst}
use Rattle.std.proofs.lemmas.Cmp.{nat_cmp_total}
use Rattle.room_base.proofs.OrderedUpdates.{removed_at, none_removed}
use Rattle.media_db.specs.Rows.{AreRecords, ssid_of}
use Rattle.media_db.proofs.Updates.{records_removed}
use Rattle.media_db.proofs.database.MediaDb.remove_record.Goals as goal

pub invariant_of-self : goal.invariant_of-self
invariant_of-self c =
    let place = rw c.deref.ensures.value at c.in-Ok.ensures in
    let gone = c.remove.ensures.items ∙ removed_at nat_cmp_total ssid_of c.args.ssid.0 c.self.inside.records.items c.in-Ok.at c.self.invariant.0.ascending place in
    (subst AreRecords (sym gone) (records_removed c.args.ssid.0 _ c.self.invariant.0), c.self.invariant.1)

pub returns-in-Ok-clause-records : goal.returns-in-Ok-clause-records
returns-in-Ok-clause-records c =
    let place = rw c.deref.ensures.value at c.in-Ok.ensures in
    rw (← c.self.view_is) (c.remove.ensures.items ∙ removed_at nat_cmp_total ssid_of c.args.ssid.0 c.self.inside.records.items c.in-Ok.at c.self.invariant.0.ascending place)

pub returns-in_default-clause-records : goal.returns-in_default-clause-records
returns-in_default-clause-records c =
    let gap = rw c.deref.ensures.value at c.in_default.ensures in
    rw (← c.self.view_is) (none_removed nat_cmp_total ssid_of c.args.ssid.0 c.self.inside.records.items _ gap)
