use Rattle.save_stream.proofs.SoFar.{each-judged, bad-not-allowed, many-not-allowed, front-allowed, stream-allowed, allowed-stands}
use Rattle.save_stream.proofs.laws.texts_are_allowed_or_bad.Goals as goal

pub returns-clause-each : goal.returns-clause-each
returns-clause-each c = each-judged

pub returns-clause-bad : goal.returns-clause-bad
returns-clause-bad c = bad-not-allowed

pub returns-clause-many : goal.returns-clause-many
returns-clause-many c = many-not-allowed

pub returns-clause-front : goal.returns-clause-front
returns-clause-front c = front-allowed

pub returns-clause-stream : goal.returns-clause-stream
returns-clause-stream c = stream-allowed

pub returns-clause-read : goal.returns-clause-read
returns-clause-read c = allowed-stands
