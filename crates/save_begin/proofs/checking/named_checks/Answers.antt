use Rattle.save_begin.specs.Asking.{level_checks, there_checks}
use Rattle.save_begin.proofs.Checks.{answers_behind, answers_exact}
use Rattle.save_begin.proofs.checking.named_checks.Goals as goal

pub returns-in-Ok : goal.returns-in-Ok
returns-in-Ok c =
    let asked = c.args.asked.now in
    let room = c.args.room.now.room in
    answers_behind (there_checks asked room) (λ done. level_checks c.args.m asked room) tt c.level_checks.result c.in-Ok.ensures
    (answers_exact (level_checks c.args.m asked room) c.level_checks.result c.level_checks.ensures)
