use Rattle.cat_journal.proofs.Handing.{hands_out}
use Rattle.cat_journal.proofs.reading.Pieces.take_some.Goals as goal

pub returns-clause-handed : goal.returns-clause-handed
returns-clause-handed g c = λ told is.
    let bytes = (g.D.Store.view c.args.store.now).reads c.args.self.now.file in
    hands_out bytes c.args.into.now c.hand_out.new.into c.args.self.now c.read_on.new.self c.hand_out.new.self c.hand_out.result
    (c.in_ok-read_on.ensures.read told is) c.hand_out.ensures.count c.hand_out.ensures.size c.hand_out.ensures.given c.hand_out.ensures.left
