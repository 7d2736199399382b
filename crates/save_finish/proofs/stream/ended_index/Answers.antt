use Rattle.save_session.specs.Sessions.{find_session}
use Rattle.save_finish.proofs.Ended.{entries_found}
use Rattle.save_finish.proofs.stream.ended_index.Goals as goal

pub returns-clause-value : goal.returns-clause-value
returns-clause-value c =
    (entries_found (find_session c.args.ssid.0 c.args.sessions.now.sessions) c.reader.result.now c.entries.result.now c.requires c.reader.ensures.session c.reader.ensures.value c.entries.ensures.value).2

pub returns-clause-allowed : goal.returns-clause-allowed
returns-clause-allowed c =
    (entries_found (find_session c.args.ssid.0 c.args.sessions.now.sessions) c.reader.result.now c.entries.result.now c.requires c.reader.ensures.session c.reader.ensures.value c.entries.ensures.value).0

pub returns-clause-few : goal.returns-clause-few
returns-clause-few c =
    (entries_found (find_session c.args.ssid.0 c.args.sessions.now.sessions) c.reader.result.now c.entries.result.now c.requires c.reader.ensures.session c.reader.ensures.value c.entries.ensures.value).1
