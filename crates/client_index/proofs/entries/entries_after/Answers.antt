use Rattle.client_index.proofs.Paths.{above_at, above_from}
use Rattle.client_index.proofs.entries.entries_after.Goals as goal

pub returns-in-Ok : goal.returns-in-Ok
returns-in-Ok c = above_at _ _ _ c.requires c.in-Ok.ensures

pub returns-in-Err : goal.returns-in-Err
returns-in-Err c = above_from _ _ _ c.requires c.in-Err.ensures
