use Rattle.std.proofs.Common.{arith}
use Rattle.std.specs.Prelude.{Some}
use Rattle.room_effects.specs.Effects.{Commit, ends_with}
use Rattle.room_effects.specs.View.{held_in}
use Rattle.room_effects.proofs.Memory.{after_one}
use Rattle.room_effects.proofs.StayingSessions.{fewer_kept}
use Rattle.save_finish.proofs.Commits.{between_commit, between_fault}
use Rattle.save_finish.proofs.committing.commit.Goals as goal

pub commit-requires-clause-memory : goal.commit-requires-clause-memory
commit-requires-clause-memory g c =
    let room = c.args.room.now.room in
    omega (arith, c.requires.ready, fewer_kept (ends_with (held_in room c.args.drive) (Some c.args.ssid.0)) room.sessions)

pub returns-in-Ok-clause-between : goal.returns-in-Ok-clause-between
returns-in-Ok-clause-between g c =
    let old = c.args.room.now.room in
    let new = c.commit.new.self.room in
    let made = after_one {T = Unit {0}} (Commit c.args.drive (Some c.args.ssid.0)) c.in-Ok.field-0 old new (g.D.Store.view c.args.store.now) (g.D.Store.view c.commit.new.store) c.in-Ok.ensures.does in
    between_commit c.args.drive c.args.ssid.0 old new c.requires.between c.is_open-is_open.ensures.room made

pub returns-in-Err-clause-between : goal.returns-in-Err-clause-between
returns-in-Err-clause-between g c =
    between_fault (Commit c.args.drive (Some c.args.ssid.0)) c.in-Err.fault c.args.room.now.room c.commit.new.self.room (g.D.Store.view c.args.store.now) (g.D.Store.view c.commit.new.store)
    c.requires.between c.is_open-is_room.ensures.room c.in-Err.ensures.does
