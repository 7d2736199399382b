use Rattle.std.proofs.Common.{[]}
use Rattle.media_db.specs.declared.records.Record.{Record}
use Rattle.room_command.specs.declared.answer.Answer.TheVariants.{Shown}
use Rattle.room_command.specs.declared.reply.Reply.TheVariants.{Done}
use Rattle.room_effects.specs.Plans.{Do}
use Rattle.room_effects.proofs.Checking.{follows_checks}
use Rattle.room_records.specs.Showing.{record_of}
use Rattle.room_records.proofs.showing.show.Goals as goal

pub returns-in-Err : goal.returns-in-Err
returns-in-Err g c =
    let room = c.args.room.now.room in
    follows_checks {X = Record} (record_of c.args.ssid room) (λ row. Do [] (Done (Shown row))) c.in-Err.refusal room (g.D.Store.view c.args._store.now) c.in-Err.ensures
