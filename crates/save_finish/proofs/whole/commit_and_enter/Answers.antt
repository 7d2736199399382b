use Rattle.std.proofs.Common.{ap}
use Rattle.save_session.specs.Sessions.{find_session}
use Rattle.room_effects.specs.View.{RoomView}
use Rattle.save_finish.proofs.Following.{uncommitted, whole_behind}
use Rattle.save_finish.proofs.whole.commit_and_enter.Goals as goal

pub returns-in-Ok-clause-does : goal.returns-in-Ok-clause-does
returns-in-Ok-clause-does g c =
    whole_behind c.args.m c.args.ssid c.close_and_enter.result c.args.room.now.room c.commit_held.new.room.room c.close_and_enter.new.room.room
    (g.D.Store.view c.args.store.now) (g.D.Store.view c.commit_held.new.store) (g.D.Store.view c.close_and_enter.new.store)
    (ap (λ (room : RoomView). room.sessions) c.in-Ok.ensures.committed.room) c.requires.few c.in-Ok.ensures.does c.close_and_enter.ensures.does

pub returns-in-Err-clause-does : goal.returns-in-Err-clause-does
returns-in-Err-clause-does g c =
    let room = c.args.room.now.room in
    uncommitted c.args.m c.args.ssid (find_session c.args.ssid.0 room.sessions) c.in-Err.fault room c.commit_held.new.room.room
    (g.D.Store.view c.args.store.now) (g.D.Store.view c.commit_held.new.store) c.in-Err.ensures.does
