use Rattle.client_index.proofs.Shown.{same-indexes}
use Rattle.client_index.proofs.laws.indexes_are_what_is_found.Goals as goal

pub returns : goal.returns
returns c = same-indexes
