use Rattle.room_entering.proofs.entering.enter_prepared.Goals as goal

-- src/entering.rt:57:17
pub enter-requires-clause-memory : goal.enter-requires-clause-memory
enter-requires-clause-memory g c = c.requires.prepared.memory c.args.m
