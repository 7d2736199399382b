use Rattle.snapshot_laws.proofs.SnapshotLaws.{read-back}
use Rattle.snapshot_reading.proofs.laws.written_snapshots_are_read.Goals as goal

pub returns : goal.returns
returns c = read-back
