use Rattle.std.proofs.Common.{◌∙◌}
use Rattle.save_session.specs.Sessions.{find_session}
use Rattle.save_begin.proofs.Reading.{saves_read}
use Rattle.save_begin.proofs.checking.saves.Goals as goal

pub returns : goal.returns
returns c =
    c.reads_set.ensures
    ∙ saves_read c.args.asked.now (find_session c.args.ssid.0 c.args.sessions.now.sessions) c.reader.result.now c.reader.ensures.value c.reader.ensures.session
