use Rattle.volume_store.proofs.StandingPlaces.{one_place}
use Rattle.volume_store.proofs.standing.one_chunk_stands_in_a_place.Goals as goal

pub returns : goal.returns
returns c = one_place
