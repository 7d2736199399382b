use Rattle.save_stream.proofs.Fields.{fields-are-one, index-is-one}
use Rattle.save_stream.proofs.laws.fields_are_one.Goals as goal

pub returns-clause-fields : goal.returns-clause-fields
returns-clause-fields c = fields-are-one

pub returns-clause-index : goal.returns-clause-index
returns-clause-index c = index-is-one
