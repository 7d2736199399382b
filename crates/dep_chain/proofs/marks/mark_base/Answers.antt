use Rattle.dep_chain.proofs.Marking.{marked_at}
use Rattle.dep_chain.proofs.marks.mark_base.Goals as goal

pub returns-in-Ok-clause-marks : goal.returns-in-Ok-clause-marks
returns-in-Ok-clause-marks c = marked_at c.args.records.now c.requires.order c.args.base.0
    c.in-Ok.place c.args.marks.now.items c.requires.each c.in-Ok.ensures
