use Rattle.save_session.specs.Sessions.{find_session}
use Rattle.save_finish.proofs.Planning.{refused_found}
use Rattle.save_finish.proofs.finishing.finish_open.Goals as goal

pub returns-in-Err-clause-follows : goal.returns-in-Err-clause-follows
returns-in-Err-clause-follows g c =
    let room = c.args.room.now.room in
    refused_found c.args.m c.args.ssid c.args.length c.args.digest.now room (find_session c.args.ssid.0 room.sessions) c.in-Err.refusal (g.D.Store.view c.args.store.now) c.in-Err.ensures.checks
