use Rattle.std.proofs.Common.{◌≡◌, rules}
use Rattle.desk.proofs.Reading.{within}
use Rattle.desk.proofs.intake.read_within.Goals as goal

pub returns-clause-read : goal.returns-clause-read
returns-clause-read g c =
    let same : c.read_request-answer.new.source.source.now ≡ _ = search rules in
    let done = within (g.S.Source.view c.args.input.now) (g.S.Source.view c.read_request-answer.new.source.source.now) c.args.intake.now.allowed
    c.read_request-answer.new.source.allowed c.args.intake.now.bytes.items c.read_request-answer.new.buffer.items c.read_request-answer.result
    c.read_request-answer.ensures.alone.1 c.read_request-answer.ensures.read in
    rw same at done
