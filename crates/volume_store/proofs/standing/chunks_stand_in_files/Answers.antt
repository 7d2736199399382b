use Rattle.volume_store.proofs.StandingFiles.{stand_in_files, none_unlabelled, none_bad}
use Rattle.volume_store.proofs.standing.chunks_stand_in_files.Goals as goal

pub returns-clause-files : goal.returns-clause-files
returns-clause-files c = stand_in_files

pub returns-clause-unlabelled : goal.returns-clause-unlabelled
returns-clause-unlabelled c = none_unlabelled

pub returns-clause-bad : goal.returns-clause-bad
returns-clause-bad c = none_bad
