use Rattle.snapshot_laws.proofs.SnapshotLaws.{one-catalogue, one-text}
use Rattle.snapshot_reading.proofs.laws.one_spelling.Goals as goal

pub returns-clause-texts : goal.returns-clause-texts
returns-clause-texts c = one-text

pub returns-clause-catalogues : goal.returns-clause-catalogues
returns-clause-catalogues c = one-catalogue
