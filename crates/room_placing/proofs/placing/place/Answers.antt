use Rattle.std.proofs.Common.{◌≡◌, List, length, rules, subst, true}
use Rattle.std.specs.Prelude.{Ok}
use Rattle.slot_changer.specs.Taking.{fits}
use Rattle.room_effects.specs.Effects.{Effect}
use Rattle.room_effects.specs.Running.{Does}
use Rattle.room_effects.specs.View.{held_in}
use Rattle.room_effects.proofs.Sending.{does_push}
use Rattle.room_placing.proofs.Between.{pushed_between}
use Rattle.room_placing.proofs.Placed.{placed_now}
use Rattle.room_placing.proofs.Pushing.{can_push_now}
use Rattle.room_placing.proofs.placing.place.Goals as goal

pub push-requires-clause-can : goal.push-requires-clause-can
push-requires-clause-can g c =
    let room = c.args.room.now.room in
    let fit : fits (held_in room c.args.drive) (length c.args.bytes.now) ≡ true = search rules in
    can_push_now c.args.drive c.args.ssid.0 c.args.offset c.args.bytes.now room c.requires.between.is c.requires.opens c.requires.drive
    c.requires.some c.requires.open c.requires.next c.requires.takes fit

pub returns-then-fits-clause-does : goal.returns-then-fits-clause-does
returns-then-fits-clause-does g c =
    let room = c.args.room.now.room in
    let new = c.push.new.self.room in
    let disk = g.D.Store.view c.args.store.now in
    let fit : fits (held_in room c.args.drive) (length c.args.bytes.now) ≡ true = search rules in
    let can = can_push_now c.args.drive c.args.ssid.0 c.args.offset c.args.bytes.now room c.requires.between.is c.requires.opens c.requires.drive
    c.requires.some c.requires.open c.requires.next c.requires.takes fit in
    let D : List Effect → Type 0 = λ effects. Does {T = Unit {0}} effects (Ok tt) room new disk disk in
    subst D (placed_now c.args.drive c.args.ssid.0 c.args.offset c.args.bytes.now room fit)
    (does_push {T = Unit {0}} c.args.drive c.args.ssid.0 1 c.args.offset c.args.bytes.now tt room new disk c.requires.between.is can c.push.ensures.pushed)

pub returns-then-fits-clause-between : goal.returns-then-fits-clause-between
returns-then-fits-clause-between g c =
    let room = c.args.room.now.room in
    let fit : fits (held_in room c.args.drive) (length c.args.bytes.now) ≡ true = search rules in
    let can = can_push_now c.args.drive c.args.ssid.0 c.args.offset c.args.bytes.now room c.requires.between.is c.requires.opens c.requires.drive
    c.requires.some c.requires.open c.requires.next c.requires.takes fit in
    pushed_between c.args.drive c.args.ssid.0 c.args.offset c.args.bytes.now room c.push.new.self.room c.requires.between can c.requires.next c.push.ensures.pushed
