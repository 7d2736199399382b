use Rattle.desk_command.specs.Targets.{parts_in}
use Rattle.desk_command.proofs.Leading.{no_place}
use Rattle.desk_command.proofs.Targets.{finds_line}
use Rattle.desk_command.proofs.route.route_of.Goals as goal

pub returns-in-Some : goal.returns-in-Some
returns-in-Some c =
    finds_line c.args.method.now c.args.target.now (parts_in c.in-Some.found) c.route_by.result c.in-Some.ensures c.route_by.ensures.found
    c.route_by.ensures.is

pub returns-in-None : goal.returns-in-None
returns-in-None c = no_place c.args.method.now c.args.target.now c.in-None.ensures
