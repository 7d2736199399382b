use Rattle.save_session.specs.Sessions.{find_session}
use Rattle.save_finish.proofs.EntryLengths.{closing_found, part_found}
use Rattle.save_finish.proofs.lengths.longest_length.Goals as goal

pub returns-clause-part : goal.returns-clause-part
returns-clause-part c =
    part_found c.args.ssid (find_session c.args.ssid.0 c.args.sessions.now.sessions) c.ended_index.result.now c.args.sections c.longest_part-part.result
    c.ended_index.ensures.value c.longest_part-part.ensures.most

pub returns-clause-closing : goal.returns-clause-closing
returns-clause-closing c =
    closing_found c.args.ssid (find_session c.args.ssid.0 c.args.sessions.now.sessions) c.args.sections c.longest_part-part.result c.requires.sections
