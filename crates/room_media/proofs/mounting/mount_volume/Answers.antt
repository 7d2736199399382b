use Rattle.std.proofs.Common.{◌≡◌, ◌∷◌, [], ap, ◌∙◌, inl, subst, sym}
use Rattle.std.specs.Prelude.{Option, Result, Ok, Err}
use Rattle.room_base.specs.declared.refusal.Refusal.TheVariants.{NoMemory}
use Rattle.media_db.specs.Rows.{volume_on}
use Rattle.media_db.specs.declared.volumes.VolumeRec.{VolumeRec}
use Rattle.volume_store.specs.declared.commit.Volume.{Volume}
use Rattle.volume_store.specs.declared.marks.MountFault.{MountFault}
use Rattle.volume_store.specs.declared.marks.MountFault.TheVariants as mounts
use Rattle.room_command.specs.declared.answer.Answer.TheVariants.{Mounted}
use Rattle.room_command.specs.declared.reply.Reply.TheVariants.{Done, Refused}
use Rattle.room_effects.specs.View.{RoomView}
use Rattle.room_effects.specs.Effects.{PutIn, SeenVolume}
use Rattle.room_effects.proofs.Sending.{does_put_in}
use Rattle.room_effects.specs.Checked.{checked}
use Rattle.room_effects.specs.Plans.{Follows}
use Rattle.room_effects.proofs.Checking.{follows_behind, follows_checked, follows_checks, follows_unread}
use Rattle.room_effects.proofs.Following.{follows_done, follows_no_memory}
use Rattle.room_media.specs.Mounting.{mounted_own, put_in_plan}
use Rattle.room_media.proofs.Putting.{can_put, looked_at, own_is}
use Rattle.room_media.proofs.mounting.mount_volume.Goals as goal

pub returns-in-Ok-put_in : goal.returns-in-Ok-put_in
returns-in-Ok-put_in g c =
    let room = c.args.room.now.room in
    let new = c.put_in.new.self.room in
    let before = g.D.Store.view c.args.store.now in
    let mid = g.D.Store.view c.look_for_volume.new.store in
    let answer = c.in-Ok.answer in
    let mounted = c.in-Ok-mounted_own.volume in
    let volume = volume_on c.args.cart.0 room.catalogue.volumes in
    let is : Ok mounted ≡ mounted_own volume c.args.cart answer =
    c.in-Ok-mounted_own.ensures ∙ ap (λ (v : Option VolumeRec). mounted_own v c.args.cart answer) c.volume_on.ensures in
    let can = can_put c.args.drive c.args.cart room answer mounted (own_is volume c.args.cart answer mounted is) c.requires.opens c.requires.drive c.requires.empty
    c.requires.cart c.requires.in_no_drive c.in-Ok.ensures.cart c.in-Ok.ensures.label c.in-Ok.ensures.mark in
    let reply = Done (Mounted c.args.drive mounted.label.volid) in (
      answer,
      looked_at c.args.cart answer c.in-Ok.ensures.reads c.in-Ok.ensures.cart,
      follows_behind c.args.cart.0 (SeenVolume answer) room {T = Result Volume MountFault} answer
          (checked {X = Volume} (mounted_own volume c.args.cart answer) (put_in_plan c.args.drive)) reply new before mid mid c.in-Ok.ensures.seen
          (follows_checked {X = Volume} (mounted_own volume c.args.cart answer) (put_in_plan c.args.drive) mounted reply room new mid mid is
          (follows_done (PutIn c.args.drive mounted ∷ []) reply room new mid mid
          (does_put_in {T = Unit {0}} c.args.drive mounted tt room new mid c.is_open-is_open.ensures.room can c.in-Ok-put_in.ensures.put))),
    )

pub returns-in-Err-put_in : goal.returns-in-Err-put_in
returns-in-Err-put_in g c =
    let room = c.args.room.now.room in
    let before = g.D.Store.view c.args.store.now in
    let mid = g.D.Store.view c.look_for_volume.new.store in
    let answer = c.in-Ok.answer in
    let volume = volume_on c.args.cart.0 room.catalogue.volumes in
    let rest = checked {X = Volume} (mounted_own volume c.args.cart answer) (put_in_plan c.args.drive) in
    let F : RoomView → Type 0 = λ now. Follows rest (Refused NoMemory) room now mid mid in (
      answer,
      looked_at c.args.cart answer c.in-Ok.ensures.reads c.in-Ok.ensures.cart,
      follows_behind c.args.cart.0 (SeenVolume answer) room {T = Result Volume MountFault} answer rest (Refused NoMemory) c.put_in.new.self.room before mid mid
          c.in-Ok.ensures.seen (subst F (sym c.in-Err-put_in.ensures.kept) (follows_no_memory rest room mid)),
    )

pub returns-in-Err-mounted_own : goal.returns-in-Err-mounted_own
returns-in-Err-mounted_own g c =
    let room = c.args.room.now.room in
    let before = g.D.Store.view c.args.store.now in
    let mid = g.D.Store.view c.look_for_volume.new.store in
    let answer = c.in-Ok.answer in
    let volume = volume_on c.args.cart.0 room.catalogue.volumes in
    let refusal = c.in-Err-mounted_own.refusal in
    let is : Err refusal ≡ mounted_own volume c.args.cart answer =
    c.in-Err-mounted_own.ensures ∙ ap (λ (v : Option VolumeRec). mounted_own v c.args.cart answer) c.volume_on.ensures in (
      answer,
      looked_at c.args.cart answer c.in-Ok.ensures.reads c.in-Ok.ensures.cart,
      follows_behind c.args.cart.0 (SeenVolume answer) room {T = Result Volume MountFault} answer
          (checked {X = Volume} (mounted_own volume c.args.cart answer) (put_in_plan c.args.drive)) (Refused refusal) room before mid mid c.in-Ok.ensures.seen
          (follows_checks {X = Volume} (mounted_own volume c.args.cart answer) (put_in_plan c.args.drive) refusal room mid (inl is)),
    )

pub returns-in-Err : goal.returns-in-Err
returns-in-Err g c =
    let room = c.args.room.now.room in
    let answer : Result Volume MountFault = Err mounts.Unlabelled in
    let volume = volume_on c.args.cart.0 room.catalogue.volumes in (
      answer,
      tt,
      follows_unread c.args.cart.0 (SeenVolume answer) room {T = Result Volume MountFault}
          (checked {X = Volume} (mounted_own volume c.args.cart answer) (put_in_plan c.args.drive)) c.in-Err.fault room
          (g.D.Store.view c.args.store.now) (g.D.Store.view c.look_for_volume.new.store) (c.in-Err.ensures.failed (SeenVolume answer)),
    )
