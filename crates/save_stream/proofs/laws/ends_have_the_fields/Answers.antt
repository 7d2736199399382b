use Rattle.save_stream.proofs.Fields.{text-has-read, body-ended}
use Rattle.save_stream.proofs.laws.ends_have_the_fields.Goals as goal

pub returns-clause-from_start : goal.returns-clause-from_start
returns-clause-from_start c = text-has-read

pub returns-clause-from_head : goal.returns-clause-from_head
returns-clause-from_head c = body-ended
