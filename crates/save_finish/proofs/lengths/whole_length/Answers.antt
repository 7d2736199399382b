use Rattle.save_session.specs.Sessions.{find_session}
use Rattle.save_finish.proofs.EntryLengths.{whole_found}
use Rattle.save_finish.proofs.lengths.whole_length.Goals as goal

pub returns : goal.returns
returns c =
    whole_found c.args.ssid (find_session c.args.ssid.0 c.args.sessions.now.sessions) c.ended_index.result.now c.args.sections c.items_length-index.result
    c.ended_index.ensures.value c.requires.sections c.items_length-index.ensures.length
