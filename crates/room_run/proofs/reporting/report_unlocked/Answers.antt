use Rattle.room_run.proofs.reporting.report_unlocked.Goals as goal

pub returns-in-InUse-clause-reported : goal.returns-in-InUse-clause-reported
returns-in-InUse-clause-reported g c = rw (← c.in-InUse.ensures) c.write_line.ensures.reported

pub returns-in-NoFolder-clause-reported : goal.returns-in-NoFolder-clause-reported
returns-in-NoFolder-clause-reported g c = rw (← c.in-NoFolder.ensures) c.write_line-in-NoFolder.ensures.reported
