use Rattle.desk_reply.proofs.Framing.{body_found, length_said}
use Rattle.desk_reply.proofs.laws.bodies_have_their_length.Goals as goal

pub returns-clause-body : goal.returns-clause-body
returns-clause-body c = body_found

pub returns-clause-length : goal.returns-clause-length
returns-clause-length c = length_said
