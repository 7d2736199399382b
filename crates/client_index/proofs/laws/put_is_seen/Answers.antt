use Rattle.client_index.proofs.Shown.{entries_of-put, view-put_first, view-put_others}
use Rattle.client_index.proofs.laws.put_is_seen.Goals as goal

pub returns : goal.returns
returns c = record { entries = entries_of-put; first = view-put_first; others = view-put_others }
