use Rattle.dep_chain.specs.Chains.{gone, purged}
use Rattle.dep_chain.proofs.chains.whole_record.Goals as goal

pub returns-in_default-clause-breaks : goal.returns-in_default-clause-breaks
returns-in_default-clause-breaks c = gone c.args.ssid c.in_default.ensures.complete

pub returns-then-row-clause-breaks : goal.returns-then-row-clause-breaks
returns-then-row-clause-breaks c = purged c.args.ssid c.in-Some.row.now c.in-Some.ensures.complete
    c.if-row.true
