use Rattle.std.specs.Prelude.{None}
use Rattle.room_base.specs.declared.numbers.Volid.{Volid}
use Rattle.media_db.specs.Rows.{volume_on}
use Rattle.volume_store.specs.declared.label.Found.{Found}
use Rattle.volume_store.specs.declared.label.Found.TheVariants as founds
use Rattle.room_command.specs.declared.reply.Reply.TheVariants.{Refused}
use Rattle.room_effects.specs.Effects.{SeenLabel}
use Rattle.room_effects.specs.Checked.{checked}
use Rattle.room_effects.specs.Plans.{Plan}
use Rattle.room_effects.proofs.Checking.{came_to, follows_behind, follows_checked, follows_checks, follows_unread}
use Rattle.room_media.specs.Labelling.{new_volume_plan, old_label}
use Rattle.room_media.proofs.Asking.{none_asked}
use Rattle.room_media.proofs.labelling.relabel.Goals as goal

pub returns-in-Ok-old_label : goal.returns-in-Ok-old_label
returns-in-Ok-old_label g c =
    let room = c.args.room.now.room in
    let new = c.args.new in
    let before = g.D.Store.view c.args.store.now in
    let mid = g.D.Store.view c.look_for_label.new.store in
    let now = g.D.Store.view c.make_volume.new.store in
    let found = c.in-Ok.found in
    let asked = c.in-Ok-old_label.ensures.0 in
    let volume = volume_on new.cart.0 room.catalogue.volumes in
    let next : Volid → Plan = λ was. new_volume_plan c.args.m new was room in (
      found,
      asked,
      c.in-Ok-old_label.ensures.1,
      follows_behind new.cart.0 (SeenLabel found) room {T = Found} found (checked {X = Volid} (old_label volume found asked) next) c.make_volume.result c.make_volume.new.room.room before mid now
          c.in-Ok.ensures.seen
          (follows_checked {X = Volid} (old_label volume found asked) next c.in-Ok-old_label.was c.make_volume.result room c.make_volume.new.room.room mid now
          (came_to {X = Volid} (old_label volume found asked) c.in-Ok-old_label.was c.in-Ok-old_label.ensures.2) c.make_volume.ensures),
    )

pub returns-in-Err-old_label : goal.returns-in-Err-old_label
returns-in-Err-old_label g c =
    let room = c.args.room.now.room in
    let new = c.args.new in
    let before = g.D.Store.view c.args.store.now in
    let mid = g.D.Store.view c.look_for_label.new.store in
    let found = c.in-Ok.found in
    let asked = c.in-Err-old_label.ensures.0 in
    let volume = volume_on new.cart.0 room.catalogue.volumes in
    let next : Volid → Plan = λ was. new_volume_plan c.args.m new was room in (
      found,
      asked,
      c.in-Err-old_label.ensures.1,
      follows_behind new.cart.0 (SeenLabel found) room {T = Found} found (checked {X = Volid} (old_label volume found asked) next) (Refused c.in-Err-old_label.refusal) room before mid mid
          c.in-Ok.ensures.seen (follows_checks {X = Volid} (old_label volume found asked) next c.in-Err-old_label.refusal room mid c.in-Err-old_label.ensures.2),
    )

pub returns-in-Err : goal.returns-in-Err
returns-in-Err g c =
    let room = c.args.room.now.room in
    let new = c.args.new in
    let volume = volume_on new.cart.0 room.catalogue.volumes in (
      founds.Blank,
      None,
      none_asked c.args.m room volume,
      follows_unread new.cart.0 (SeenLabel founds.Blank) room {T = Found} (checked {X = Volid} (old_label volume founds.Blank None) (λ was. new_volume_plan c.args.m new was room))
          c.in-Err.fault room (g.D.Store.view c.args.store.now) (g.D.Store.view c.look_for_label.new.store) (c.in-Err.ensures.failed (SeenLabel founds.Blank)),
    )
