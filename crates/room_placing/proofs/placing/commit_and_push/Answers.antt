use Rattle.std.proofs.Common.{arith, ◌∷◌, []}
use Rattle.std.specs.Prelude.{Ok, Some}
use Rattle.room_effects.specs.Effects.{Commit, Push, ends_with}
use Rattle.room_effects.specs.View.{held_in}
use Rattle.room_effects.proofs.Does.{does_then}
use Rattle.room_effects.proofs.Memory.{after_one}
use Rattle.room_effects.proofs.Sending.{does_push}
use Rattle.room_effects.proofs.StayingSessions.{fewer_kept}
use Rattle.room_placing.proofs.Between.{after_one_broken, can_commit_here, can_push_behind, lost_between, placed_between}
use Rattle.room_placing.proofs.placing.commit_and_push.Goals as goal

pub commit-requires-clause-can : goal.commit-requires-clause-can
commit-requires-clause-can g c =
    can_commit_here c.args.drive c.args.ssid.0 c.args.offset c.args.bytes.now c.args.room.now.room c.requires.between c.requires.opens c.requires.drive
    c.requires.some c.requires.most c.requires.open c.requires.next c.requires.takes c.requires.full

pub commit-requires-clause-memory : goal.commit-requires-clause-memory
commit-requires-clause-memory g c =
    let room = c.args.room.now.room in
    omega (arith, c.requires.commits, fewer_kept (ends_with (held_in room c.args.drive) (Some c.args.ssid.0)) room.sessions)

pub push-requires-clause-can : goal.push-requires-clause-can
push-requires-clause-can g c =
    let room = c.args.room.now.room in
    let mid = c.commit.new.self.room in
    let made = after_one {T = Unit {0}} (Commit c.args.drive (Some c.args.ssid.0)) tt room mid (g.D.Store.view c.args.store.now) (g.D.Store.view c.commit.new.store) c.in-Ok.ensures.does in
    can_push_behind c.args.drive c.args.ssid.0 c.args.offset c.args.bytes.now room c.requires.between c.requires.opens c.requires.drive
    c.requires.some c.requires.most c.requires.open c.requires.next c.requires.takes c.requires.full mid made

pub returns-in-Ok-clause-does : goal.returns-in-Ok-clause-does
returns-in-Ok-clause-does g c =
    let room = c.args.room.now.room in
    let mid = c.commit.new.self.room in
    let new = c.push.new.self.room in
    let before = g.D.Store.view c.args.store.now in
    let now = g.D.Store.view c.commit.new.store in
    let commit = Commit c.args.drive (Some c.args.ssid.0) in
    let push = Push c.args.drive c.args.ssid.0 1 c.args.offset c.args.bytes.now in
    let made = after_one {T = Unit {0}} commit tt room mid before now c.in-Ok.ensures.does in
    let can = can_push_behind c.args.drive c.args.ssid.0 c.args.offset c.args.bytes.now room c.requires.between c.requires.opens c.requires.drive
    c.requires.some c.requires.most c.requires.open c.requires.next c.requires.takes c.requires.full mid made in
    does_then {T = Unit {0}} {U = Unit {0}} commit (push ∷ []) tt (Ok tt) room mid new before now now c.in-Ok.ensures.does
    (does_push {T = Unit {0}} c.args.drive c.args.ssid.0 1 c.args.offset c.args.bytes.now tt mid new now c.is_open-still_open.ensures.room can c.push.ensures.pushed)

pub returns-in-Ok-clause-between : goal.returns-in-Ok-clause-between
returns-in-Ok-clause-between g c =
    let room = c.args.room.now.room in
    let mid = c.commit.new.self.room in
    let made = after_one {T = Unit {0}} (Commit c.args.drive (Some c.args.ssid.0)) tt room mid (g.D.Store.view c.args.store.now) (g.D.Store.view c.commit.new.store) c.in-Ok.ensures.does in
    placed_between c.args.drive c.args.ssid.0 c.args.offset c.args.bytes.now room c.requires.between c.requires.opens c.requires.drive
    c.requires.some c.requires.most c.requires.open c.requires.next c.requires.takes c.requires.full mid c.push.new.self.room made c.push.ensures.pushed

pub returns-in-Err-clause-between : goal.returns-in-Err-clause-between
returns-in-Err-clause-between g c =
    let room = c.args.room.now.room in
    let new = c.commit.new.self.room in
    let made = after_one_broken {T = Unit {0}} (Commit c.args.drive (Some c.args.ssid.0)) c.in-Err.fault room new (g.D.Store.view c.args.store.now) (g.D.Store.view c.commit.new.store) c.in-Err.ensures.does in
    lost_between c.args.drive c.args.ssid.0 c.args.offset c.args.bytes.now room c.requires.between c.requires.opens c.requires.drive
    c.requires.some c.requires.most c.requires.open c.requires.next c.requires.takes c.requires.full new made
