use Rattle.desk_request.proofs.OfAll.{request_of_all, end_of_all, bad_of_all}
use Rattle.desk_request.proofs.laws.answers_hold_of_all_bytes.Goals as goal

pub returns-clause-request : goal.returns-clause-request
returns-clause-request c = request_of_all

pub returns-clause-end : goal.returns-clause-end
returns-clause-end c = end_of_all

pub returns-clause-bad : goal.returns-clause-bad
returns-clause-bad c = bad_of_all
