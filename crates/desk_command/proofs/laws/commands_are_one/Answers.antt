use Rattle.desk_command.proofs.Answering.{one_outcome, one_route}
use Rattle.desk_command.proofs.laws.commands_are_one.Goals as goal

pub returns : goal.returns
returns c = record { route = one_route; outcome = one_outcome }
