use Rattle.std.proofs.Common.{sym}
use Rattle.std.proofs.lemmas.Cmp.{nat_cmp_total}
use Rattle.room_base.proofs.OrderedSearch.{found_read, none_at}
use Rattle.media_db.specs.Rows.{volid_of}
use Rattle.media_db.proofs.Updates.{place_volid}
use Rattle.media_db.proofs.database.MediaDb.volume.Goals as goal

pub returns-in-Ok-clause-found : goal.returns-in-Ok-clause-found
returns-in-Ok-clause-found c =
    let place = rw c.deref.ensures.value at c.in-Ok.ensures in
    rw (← c.self.view_is) (sym (found_read nat_cmp_total volid_of c.args.volid.0 c.self.inside.volumes.items c.self.invariant.1 c.in-Ok.at place c.index.result.now c.index.ensures))

pub returns-in-Ok-clause-volid : goal.returns-in-Ok-clause-volid
returns-in-Ok-clause-volid c =
    let place = rw c.deref.ensures.value at c.in-Ok.ensures in
    place_volid c.args.volid c.self.inside.volumes.items c.in-Ok.at place c.index.result.now c.index.ensures

pub returns-in-Err-clause-found : goal.returns-in-Err-clause-found
returns-in-Err-clause-found c =
    let gap = rw c.deref.ensures.value at c.in-Err.ensures in
    rw (← c.self.view_is) (sym (none_at nat_cmp_total volid_of c.args.volid.0 c.self.inside.volumes.items _ gap))
