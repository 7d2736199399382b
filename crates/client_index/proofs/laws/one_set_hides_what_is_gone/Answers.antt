use Rattle.client_index.proofs.Shown.{one-shown, one-hidden}
use Rattle.client_index.proofs.laws.one_set_hides_what_is_gone.Goals as goal

pub returns : goal.returns
returns c = record { shown = one-shown; hidden = one-hidden }
