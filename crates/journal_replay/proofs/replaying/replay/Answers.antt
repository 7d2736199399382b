use Rattle.journal_replay.proofs.replaying.replay.Goals as goal

pub returns-clause-told : goal.returns-clause-told
returns-clause-told g c = λ told. c.replay_opened.ensures.told (g.D.Store.view c.args.store.now).reads (c.in_ok-opened.ensures.opens told)
