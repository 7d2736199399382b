use Rattle.save_session.specs.Sessions.{find_session}
use Rattle.room_command.specs.declared.answer.Answer.TheVariants.{Finished}
use Rattle.room_command.specs.declared.reply.Reply.TheVariants.{Done}
use Rattle.save_finish.proofs.Handing.{answer_is}
use Rattle.save_finish.proofs.Planning.{done_found, fault_found}
use Rattle.save_finish.proofs.whole.end_whole.Goals as goal

pub returns-in-Ok-clause-follows : goal.returns-in-Ok-clause-follows
returns-in-Ok-clause-follows g c =
    let room = c.args.room.now.room in
    let found = find_session c.args.ssid.0 room.sessions in
    done_found c.args.m c.args.ssid room found (Done (Finished c.args.stream.bytes c.args.stream.files c.args.ssid)) c.commit_and_enter.new.room.room
    (g.D.Store.view c.args.store.now) (g.D.Store.view c.commit_and_enter.new.store) (answer_is c.args.ssid c.args.stream found c.requires.stream) c.in-Ok.ensures.does

pub returns-in-Err-clause-follows : goal.returns-in-Err-clause-follows
returns-in-Err-clause-follows g c =
    let room = c.args.room.now.room in
    fault_found c.args.m c.args.ssid room (find_session c.args.ssid.0 room.sessions) c.in-Err.fault c.commit_and_enter.new.room.room
    (g.D.Store.view c.args.store.now) (g.D.Store.view c.commit_and_enter.new.store) c.in-Err.ensures.does
