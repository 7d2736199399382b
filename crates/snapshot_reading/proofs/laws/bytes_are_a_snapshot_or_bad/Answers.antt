use Rattle.snapshot_laws.proofs.SnapshotLaws.{fault-is, not-bad, one-place, text-or-bad}
use Rattle.snapshot_reading.proofs.laws.bytes_are_a_snapshot_or_bad.Goals as goal

pub returns-clause-each : goal.returns-clause-each
returns-clause-each c = text-or-bad

pub returns-clause-either : goal.returns-clause-either
returns-clause-either c = not-bad

pub returns-clause-fault : goal.returns-clause-fault
returns-clause-fault c = fault-is

pub returns-clause-one : goal.returns-clause-one
returns-clause-one c = one-place
