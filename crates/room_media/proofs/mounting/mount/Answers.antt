use Rattle.std.proofs.Common.{◌≡◌, refl, subst}
use Rattle.std.specs.Prelude.{Result, Err, Ok}
use Rattle.room_base.specs.declared.numbers.Cart.{Cart}
use Rattle.room_base.specs.declared.refusal.Refusal.{Refusal}
use Rattle.media_db.specs.Rows.{volume_on}
use Rattle.volume_store.specs.declared.commit.Volume.{Volume}
use Rattle.volume_store.specs.declared.label.Found.TheVariants as founds
use Rattle.volume_store.specs.declared.marks.MountFault.{MountFault}
use Rattle.volume_store.specs.declared.marks.MountFault.TheVariants as mounts
use Rattle.room_effects.proofs.Checking.{came_to, follows_checked, follows_checks}
use Rattle.room_media.specs.Mounting.{IsOn, cart_plan, mount_checks, mount_plan}
use Rattle.room_media.proofs.Putting.{none_on}
use Rattle.room_media.proofs.mounting.mount.Goals as goal

pub returns-in-Err : goal.returns-in-Err
returns-in-Err g c =
    let room = c.args.room.now.room in
    let answer : Result Volume MountFault = Err mounts.Unlabelled in (
      mount_plan c.args.slot c.args.drive founds.Blank answer room,
      (founds.Blank, answer, none_on (mount_checks c.args.slot c.args.drive room), refl),
      follows_checks {X = Cart} (mount_checks c.args.slot c.args.drive room) (λ cart. cart_plan c.args.drive founds.Blank answer (volume_on cart.0 room.catalogue.volumes) cart)
          c.in-Err.refusal room (g.D.Store.view c.args.store.now) c.in-Err.ensures.checks,
    )

pub returns-in-Ok : goal.returns-in-Ok
returns-in-Ok g c =
    let room = c.args.room.now.room in
    let cart = c.in-Ok.cart in
    let found = c.mount_cart.ensures.0 in
    let answer = c.mount_cart.ensures.1 in
    let checks = mount_checks c.args.slot c.args.drive room in
    let is : ◌≡◌ {A = Result Cart Refusal} (Ok cart) checks = came_to checks cart c.in-Ok.ensures.checks in
    let O : Result Cart Refusal → Type 0 = λ one. IsOn one answer in (
      mount_plan c.args.slot c.args.drive found answer room,
      (found, answer, subst O is c.mount_cart.ensures.2, refl),
      follows_checked {X = Cart} checks (λ one. cart_plan c.args.drive found answer (volume_on one.0 room.catalogue.volumes) one) cart c.mount_cart.result room c.mount_cart.new.room.room
          (g.D.Store.view c.args.store.now) (g.D.Store.view c.mount_cart.new.store) is c.mount_cart.ensures.3,
    )
