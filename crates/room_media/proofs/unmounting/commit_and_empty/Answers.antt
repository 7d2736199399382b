use Rattle.std.proofs.Common.{arith}
use Rattle.std.specs.Prelude.{None}
use Rattle.room_effects.specs.Effects.{ends_with}
use Rattle.room_effects.specs.View.{held_in}
use Rattle.room_effects.proofs.StayingSessions.{fewer_kept}
use Rattle.room_media.proofs.Emptying.{follows_committed}
use Rattle.room_media.proofs.unmounting.commit_and_empty.Goals as goal

pub commit-requires-clause-memory : goal.commit-requires-clause-memory
commit-requires-clause-memory g c =
    omega (arith, c.requires.ready, fewer_kept (ends_with (held_in c.args.room.now.room c.args.drive) None) c.args.room.now.room.sessions)

pub returns-in-Ok : goal.returns-in-Ok
returns-in-Ok g c =
    follows_committed c.args.drive c.args.room.now.room c.commit.new.self.room c.take_out.new.self.room (g.D.Store.view c.args.store.now) (g.D.Store.view c.commit.new.store)
    c.is_open-is_open.ensures.room c.is_open-still_open.ensures.room c.requires.opens c.requires.drive c.requires.some c.in-Ok.ensures.does c.take_out.ensures.taken
