use Rattle.save_stream.proofs.Steps.{reads-stand, body-stands}
use Rattle.save_stream.proofs.laws.what_is_read_is_spelled.Goals as goal

pub returns-clause-from_start : goal.returns-clause-from_start
returns-clause-from_start c = reads-stand

pub returns-clause-from_head : goal.returns-clause-from_head
returns-clause-from_head c = body-stands
