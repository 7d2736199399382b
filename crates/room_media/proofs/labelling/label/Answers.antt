use Rattle.std.proofs.Common.{refl}
use Rattle.std.specs.Prelude.{None}
use Rattle.media_db.specs.Rows.{volume_on}
use Rattle.volume_store.specs.declared.label.Found.TheVariants as founds
use Rattle.room_effects.specs.Checked.{checked}
use Rattle.room_effects.proofs.Checking.{follows_checks}
use Rattle.room_media.specs.declared.labelling.NewVolume.{NewVolume}
use Rattle.room_media.specs.Labelling.{label_checks, relabel_plan, volume_of}
use Rattle.room_media.specs.Slots.{cart_in}
use Rattle.room_effects.specs.Plans.{Plan}
use Rattle.room_media.proofs.Asking.{none_asked}
use Rattle.room_media.proofs.labelling.label.Goals as goal

pub returns-in-Err : goal.returns-in-Err
returns-in-Err g c =
    let room = c.args.room.now.room in
    let checks = label_checks c.is_pool_name-named.result c.args.slot c.args.pool c.args.capacity c.args.block room in
    let next : NewVolume → Plan = λ new. relabel_plan c.args.m founds.Blank None (volume_on new.cart.0 room.catalogue.volumes) room new in (
      checked {X = NewVolume} checks next,
      record {
        named = c.is_pool_name-named.result;
        is_named = c.is_pool_name-named.ensures;
        found = founds.Blank;
        asked = None;
        answer = none_asked c.args.m room (volume_of (cart_in c.args.slot room) room);
        is = refl;
      },
      follows_checks {X = NewVolume} checks next c.in-Err.refusal room (g.D.Store.view c.args.store.now) c.in-Err.ensures.checks,
    )
