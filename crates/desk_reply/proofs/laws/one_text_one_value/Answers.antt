use Rattle.desk_reply.proofs.Framing.{one_text}
use Rattle.desk_reply.proofs.Telling.{done_or_refused, same_number}
use Rattle.desk_reply.proofs.laws.one_text_one_value.Goals as goal

pub returns-clause-value : goal.returns-clause-value
returns-clause-value c = one_text

pub returns-clause-done : goal.returns-clause-done
returns-clause-done c = done_or_refused

pub returns-clause-number : goal.returns-clause-number
returns-clause-number c = same_number
