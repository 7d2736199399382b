use Rattle.desk_command.proofs.Inserting.{placed_by}
use Rattle.desk_command.proofs.place.put.Goals as goal
use Rattle.desk_command.proofs.place.put.Goals.{in-Ok, in-Err}

pub returns : goal.returns
returns c = elim c.match-insert.branch [
  | in-Ok w ↦ rw w.result-is (placed_by c.args.place c.args.route.now c.args.router.now c.insert.new.self c.requires w.in-Ok.ensures)
  | in-Err w ↦ rw w.result-is tt
]
