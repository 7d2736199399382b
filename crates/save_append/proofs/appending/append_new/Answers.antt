use Rattle.std.specs.Prelude.{None}
use Rattle.room_base.specs.declared.refusal.Refusal.TheVariants.{TooMany}
use Rattle.room_command.specs.declared.reply.Reply.TheVariants.{Refused}
use Rattle.save_stream.specs.Spelling.{max_size}
use Rattle.save_session.specs.Sessions.{find_session}
use Rattle.room_effects.specs.Plans.{Follows, Plan}
use Rattle.room_effects.proofs.Following.{follows_refusal}
use Rattle.save_append.proofs.Planning.{follows_none, goes_on, too_many}
use Rattle.save_append.proofs.appending.append_new.Goals as goal

pub returns-then-not-may_become_longer-clause-follows : goal.returns-then-not-may_become_longer-clause-follows
returns-then-not-may_become_longer-clause-follows g c =
    let room = c.args.room.now.room in
    let disk = g.D.Store.view c.args.store.now in
    let F : Plan → Type 0 = λ plan. Follows plan (Refused (TooMany max_size)) room room disk disk in
    too_many F c.args.ssid.0 c.args.piece.now room (find_session c.args.ssid.0 room.sessions) c.if-not-may_become_longer.ensures (follows_refusal (TooMany max_size) room disk)

pub returns-in-None-clause-follows : goal.returns-in-None-clause-follows
returns-in-None-clause-follows g c =
    let room = c.args.room.now.room in
    let disk = g.D.Store.view c.args.store.now in
    let refusal = c.need_volume.result in
    let found = find_session c.args.ssid.0 room.sessions in
    let F : Plan → Type 0 = λ plan. Follows plan (Refused refusal) room room disk disk in
    goes_on F c.args.ssid.0 c.args.piece.now room None found c.if-not-may_become_longer.ensures c.in-None.ensures.drive
    (follows_none c.args.ssid.0 c.args.piece.now room disk refusal found c.need_volume.ensures)
