use Rattle.cat_journal.proofs.Images.{turned_images, turned_stands_on}
use Rattle.cat_journal.proofs.journal.Journal.turn_over.Goals as goal

pub returns-clause-images : goal.returns-clause-images
returns-clause-images g c = λ told more is.
    turned_images (g.D.Store.view c.args.store.now) (g.D.Store.view c.write_next.new.store) c.args.self.now c.args.snapshot.now told is
    (c.write_next.ensures.allowed more) (c.write_next.ensures.writes more)

pub returns-clause-stands : goal.returns-clause-stands
returns-clause-stands g c = λ told more is.
    turned_stands_on c.write_next.result (g.D.Store.view c.args.store.now) (g.D.Store.view c.write_next.new.store) c.args.self.now c.write_next.new.self
    c.args.snapshot.now told is (c.write_next.ensures.allowed more) (c.write_next.ensures.moved more) (c.write_next.ensures.writes more)
