use Rattle.volume_store.proofs.StandingCommit.{file_adds}
use Rattle.volume_store.proofs.standing.a_file_adds_its_chunks.Goals as goal

pub returns : goal.returns
returns c = file_adds
