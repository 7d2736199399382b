use Rattle.std.proofs.Common.{◌≡◌, ap, ◌∙◌, inl}
use Rattle.std.specs.Prelude.{Option, Result, Ok, Err}
use Rattle.media_db.specs.Rows.{volume_on}
use Rattle.media_db.specs.declared.volumes.VolumeRec.{VolumeRec}
use Rattle.volume_store.specs.declared.commit.Volume.{Volume}
use Rattle.volume_store.specs.declared.label.Found.{Found}
use Rattle.volume_store.specs.declared.label.Found.TheVariants as founds
use Rattle.volume_store.specs.declared.marks.MountFault.{MountFault}
use Rattle.volume_store.specs.declared.marks.MountFault.TheVariants as mounts
use Rattle.room_command.specs.declared.reply.Reply.TheVariants.{Refused}
use Rattle.room_effects.specs.Effects.{SeenLabel}
use Rattle.room_effects.specs.Checked.{checked}
use Rattle.room_effects.proofs.Checking.{follows_behind, follows_checked, follows_checks, follows_unread}
use Rattle.room_media.specs.Mounting.{found_own, volume_plan}
use Rattle.room_media.proofs.mounting.mount_cart.Goals as goal

pub returns-in-Ok-found_own : goal.returns-in-Ok-found_own
returns-in-Ok-found_own g c =
    let room = c.args.room.now.room in
    let new = c.mount_volume.new.room.room in
    let before = g.D.Store.view c.args.store.now in
    let mid = g.D.Store.view c.look_for_label.new.store in
    let now = g.D.Store.view c.mount_volume.new.store in
    let found = c.in-Ok.found in
    let answer = c.mount_volume.ensures.0 in
    let volume = volume_on c.args.cart.0 room.catalogue.volumes in
    let is : Ok tt ≡ found_own volume c.args.cart found =
    c.in-Ok-found_own.ensures ∙ ap (λ (v : Option VolumeRec). found_own v c.args.cart found) c.volume_on.ensures in (
      found,
      answer,
      c.mount_volume.ensures.1,
      follows_behind c.args.cart.0 (SeenLabel found) room {T = Found} found
          (checked {X = Unit {0}} (found_own volume c.args.cart found) (λ done. volume_plan c.args.drive answer volume c.args.cart)) c.mount_volume.result new before mid now
          c.in-Ok.ensures.seen
          (follows_checked {X = Unit {0}} (found_own volume c.args.cart found) (λ done. volume_plan c.args.drive answer volume c.args.cart) tt c.mount_volume.result room new mid now is
          c.mount_volume.ensures.2),
    )

pub returns-in-Err-found_own : goal.returns-in-Err-found_own
returns-in-Err-found_own g c =
    let room = c.args.room.now.room in
    let before = g.D.Store.view c.args.store.now in
    let mid = g.D.Store.view c.look_for_label.new.store in
    let found = c.in-Ok.found in
    let answer : Result Volume MountFault = Err mounts.Unlabelled in
    let volume = volume_on c.args.cart.0 room.catalogue.volumes in
    let refusal = c.in-Err-found_own.refusal in
    let is : Err refusal ≡ found_own volume c.args.cart found =
    c.in-Err-found_own.ensures ∙ ap (λ (v : Option VolumeRec). found_own v c.args.cart found) c.volume_on.ensures in (
      found,
      answer,
      tt,
      follows_behind c.args.cart.0 (SeenLabel found) room {T = Found} found
          (checked {X = Unit {0}} (found_own volume c.args.cart found) (λ done. volume_plan c.args.drive answer volume c.args.cart)) (Refused refusal) room before mid mid
          c.in-Ok.ensures.seen
          (follows_checks {X = Unit {0}} (found_own volume c.args.cart found) (λ done. volume_plan c.args.drive answer volume c.args.cart) refusal room mid (inl is)),
    )

pub returns-in-Err : goal.returns-in-Err
returns-in-Err g c =
    let room = c.args.room.now.room in
    let answer : Result Volume MountFault = Err mounts.Unlabelled in
    let volume = volume_on c.args.cart.0 room.catalogue.volumes in (
      founds.Blank,
      answer,
      tt,
      follows_unread c.args.cart.0 (SeenLabel founds.Blank) room {T = Found}
          (checked {X = Unit {0}} (found_own volume c.args.cart founds.Blank) (λ done. volume_plan c.args.drive answer volume c.args.cart)) c.in-Err.fault room
          (g.D.Store.view c.args.store.now) (g.D.Store.view c.look_for_label.new.store) (c.in-Err.ensures.failed (SeenLabel founds.Blank)),
    )
