use Rattle.room_core.proofs.room.Room.open.Goals as goal

pub returns-clause-opened : goal.returns-clause-opened
returns-clause-opened g c = record {
  opening = record { catalogue = c.in_ok-replayed.replayed.catalogue.lists; journal = c.in_ok-replayed.replayed.journal };
  room_is = c.opened-state.ensures;
  held = c.in_ok-replayed.ensures.untold.held;
  fits = c.in_ok-replayed.ensures.untold.journal;
  replays = c.in_ok-replayed.ensures.told;
  journal = c.in_ok-replayed.ensures.journal;
}
