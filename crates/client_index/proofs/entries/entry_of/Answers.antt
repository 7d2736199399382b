use Rattle.client_index.proofs.Paths.{entry_at, no_entry}
use Rattle.client_index.proofs.entries.entry_of.Goals as goal

pub returns-in-Ok : goal.returns-in-Ok
returns-in-Ok c = entry_at _ _ _ _ c.requires c.in-Ok.ensures c.index-entries-at.is

pub returns-in-Err : goal.returns-in-Err
returns-in-Err c = no_entry _ _ _ c.requires c.in-Err.ensures
