use Rattle.dep_chain.proofs.Labels.{only_on}
use Rattle.dep_chain.proofs.labelling.lies_only_on.Goals as goal

pub returns-then-row_lies_on : goal.returns-then-row_lies_on
returns-then-row_lies_on c =
    let facts = rw c.as_slice.ensures at c.has_done_off.ensures in
    only_on c.has_done_off.result (c.row_lies_on.ensures.0 c.if-row_lies_on.true) facts
