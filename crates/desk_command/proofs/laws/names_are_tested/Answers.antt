use Rattle.desk_command.proofs.Names.{tests_name}
use Rattle.desk_command.proofs.laws.names_are_tested.Goals as goal

pub returns : goal.returns
returns c = tests_name
