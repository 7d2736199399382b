use Rattle.desk_reply.proofs.Finding.{number_found, name_found, fields_found}
use Rattle.desk_reply.proofs.laws.refusals_have_their_fields.Goals as goal

pub returns-clause-number : goal.returns-clause-number
returns-clause-number c = number_found

pub returns-clause-name : goal.returns-clause-name
returns-clause-name c = name_found

pub returns-clause-fields : goal.returns-clause-fields
returns-clause-fields c = fields_found
