use Rattle.client_index.proofs.Shown.{entries_of-forget, view-forget_first, view-forget_others}
use Rattle.client_index.proofs.laws.forgotten_is_not_seen.Goals as goal

pub returns : goal.returns
returns c = record { entries = entries_of-forget; first = view-forget_first; others = view-forget_others }
