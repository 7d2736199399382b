use Rattle.desk_command.specs.Targets.{parts_in}
use Rattle.desk_command.proofs.Taking.{made_of}
use Rattle.desk_command.proofs.target.find_target.Goals as goal

pub returns-in-Ok : goal.returns-in-Ok
returns-in-Ok c =
    made_of c.in-Ok.found.value.now c.in-Ok.found.params c.args.target.now (parts_in c.target_at.result) c.utf8.target c.type_inv.target
    c.in-Ok.ensures.found c.in-Ok.ensures.path c.target_at.ensures
