use Rattle.std.proofs.Common.{arith, ◌≤◌}
use Rattle.recover_files.proofs.Places.{up_to_last}
use Rattle.recover_files.proofs.sections.last_index.Goals as goal

pub returns : goal.returns
returns c = λ index.
    let section = c.args.section.now in
    let some : 1 ≤ c.args.units = omega (arith, c.if-units-eq0.false) in
    rw c.from.ensures (up_to_last section c.args.units index some c.if-section.false)
