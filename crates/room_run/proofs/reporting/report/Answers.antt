use Rattle.std.proofs.Common.{List, ℕ, subst}
use Rattle.room_run.specs.Report.{usage_line, WritesLine}
use Rattle.room_run.proofs.reporting.report.Goals as goal

pub returns-in-Usage-clause-reported : goal.returns-in-Usage-clause-reported
returns-in-Usage-clause-reported g c = λ told.
    let old = g.E.Sink.view c.args.err.now in
    let new = g.E.Sink.view c.report_usage.new.err in
    let P : List ℕ → Type 0 = λ (word : List ℕ). WritesLine (usage_line word) old new in
    rw c.in-Usage.is (subst P c.as_slice.ensures (c.report_usage.ensures.reported told))

pub returns-in-WriteFault-clause-reported : goal.returns-in-WriteFault-clause-reported
returns-in-WriteFault-clause-reported g c = λ told. rw c.in-WriteFault.is (c.write_line-in-WriteFault.ensures.reported told)

pub returns-in-ClockFault-clause-reported : goal.returns-in-ClockFault-clause-reported
returns-in-ClockFault-clause-reported g c = λ told. rw c.in-ClockFault.is (c.write_line-in-ClockFault.ensures.reported told)

pub returns-in-DamagedJournal-clause-reported : goal.returns-in-DamagedJournal-clause-reported
returns-in-DamagedJournal-clause-reported g c = λ told. rw c.in-DamagedJournal.is (c.report_damaged.ensures.reported told)

pub returns-in-InputLimit-clause-reported : goal.returns-in-InputLimit-clause-reported
returns-in-InputLimit-clause-reported g c = λ told. rw c.in-InputLimit.is (c.write_line-in-InputLimit.ensures.reported told)
