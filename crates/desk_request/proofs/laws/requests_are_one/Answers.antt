use Rattle.desk_request.proofs.OneReading.{first_is_one, requests_are_one_from}
use Rattle.desk_request.proofs.laws.requests_are_one.Goals as goal

pub returns-clause-first : goal.returns-clause-first
returns-clause-first c = first_is_one

pub returns-clause-all : goal.returns-clause-all
returns-clause-all c = requests_are_one_from 0
