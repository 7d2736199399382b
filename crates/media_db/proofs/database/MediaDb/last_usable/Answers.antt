use Rattle.media_db.proofs.database.MediaDb.last_usable.Goals as goal

pub returns : goal.returns
returns c = rw (← c.self.view_is, ← c.deref.ensures.value) c.last_base.ensures
