use Rattle.std.proofs.Common.{◌∙◌, sym, subst, inl, inr, arith}
use Rattle.std.proofs.lemmas.Cmp.{nat_cmp_total}
use Rattle.room_base.proofs.OrderedSearch.{none_at}
use Rattle.room_base.proofs.OrderedUpdates.{ascends_put, put_at, put_between}
use Rattle.media_db.specs.Rows.{AreVolumes, volid_of}
use Rattle.media_db.proofs.Updates.{none_there}
use Rattle.media_db.proofs.database.MediaDb.put_volume.Goals as goal

pub invariant_of-self : goal.invariant_of-self
invariant_of-self c =
    let place = rw c.deref.ensures.value at c.in-Ok.ensures in
    let put = put_at nat_cmp_total volid_of c.self.inside.volumes.items c.args.volume c.in-Ok.at c.self.invariant.1 place in
    (c.self.invariant.0, subst AreVolumes (sym put) (ascends_put nat_cmp_total volid_of _ c.args.volume c.self.invariant.1))

pub returns-in-Ok-clause-volumes : goal.returns-in-Ok-clause-volumes
returns-in-Ok-clause-volumes c =
    let place = rw c.deref.ensures.value at c.in-Ok.ensures in
    rw (← c.self.view_is) (put_at nat_cmp_total volid_of c.self.inside.volumes.items c.args.volume c.in-Ok.at c.self.invariant.1 place)

-- there is room, since there is no volume to be replaced
pub insert_in_room-requires-clause-room : goal.insert_in_room-requires-clause-room
insert_in_room-requires-clause-room c =
    let gap = rw c.deref.ensures.value at c.in-Err.ensures in
    let none = none_at nat_cmp_total volid_of c.args.volume.volid.0 c.self.inside.volumes.items c.in-Err.at gap in
    elim c.requires.room [
      | inl room ↦ let more = rw (← c.self.view_is) at room in omega arith
      | inr found ↦ absurd (none_there _ none (rw (← c.self.view_is) at found))
    ]

pub invariant_of-self-in-Err : goal.invariant_of-self-in-Err
invariant_of-self-in-Err c =
    let gap = rw c.deref.ensures.value at c.in-Err.ensures in
    let put = c.insert_in_room.ensures.items ∙ put_between nat_cmp_total volid_of c.self.inside.volumes.items c.args.volume c.in-Err.at gap in
    (c.self.invariant.0, subst AreVolumes (sym put) (ascends_put nat_cmp_total volid_of _ c.args.volume c.self.invariant.1))

pub returns-in-Err-clause-volumes : goal.returns-in-Err-clause-volumes
returns-in-Err-clause-volumes c =
    let gap = rw c.deref.ensures.value at c.in-Err.ensures in
    rw (← c.self.view_is) (c.insert_in_room.ensures.items ∙ put_between nat_cmp_total volid_of c.self.inside.volumes.items c.args.volume c.in-Err.at gap)

pub returns-in-Err-clause-in_place : goal.returns-in-Err-clause-in_place
returns-in-Err-clause-in_place c found =
    let gap = rw c.deref.ensures.value at c.in-Err.ensures in
    let none = none_at nat_cmp_total volid_of c.args.volume.volid.0 c.self.inside.volumes.items c.in-Err.at gap in
    absurd (none_there _ none (rw (← c.self.view_is) at found))
