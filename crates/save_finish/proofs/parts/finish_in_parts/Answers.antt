use Rattle.save_session.specs.Sessions.{find_session}
use Rattle.save_finish.proofs.Planning.{no_memory_found}
use Rattle.save_finish.proofs.parts.finish_in_parts.Goals as goal

pub returns-in-Err-clause-follows : goal.returns-in-Err-clause-follows
returns-in-Err-clause-follows g c =
    let room = c.args.room.now.room in
    no_memory_found c.args.m c.args.ssid room (find_session c.args.ssid.0 room.sessions) c.prepare_parts.new.room.room (g.D.Store.view c.args.store.now) c.in-Err.ensures.room
