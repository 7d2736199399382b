use Rattle.client_index.proofs.Shown.{seen-found}
use Rattle.client_index.proofs.laws.seen_is_of_its_owner.Goals as goal

pub returns : goal.returns
returns c sets chain path seen is =
    let found = seen-found sets chain path seen is in
    (found.owner, (found.entry, found.among, found.at, found.is))
