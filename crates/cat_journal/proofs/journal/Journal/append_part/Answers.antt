use Rattle.std.proofs.Common.{◌∙◌, ap}
use Rattle.cat_journal.specs.Journal.{JournalView, form_of}
use Rattle.cat_journal.proofs.Images.{entry_images, entry_stands_on, number_part}
use Rattle.cat_journal.proofs.journal.Journal.append_part.Goals as goal

pub returns-clause-images : goal.returns-clause-images
returns-clause-images g c = λ told contents has.
    entry_images (g.D.Store.view c.args.store.now) (g.D.Store.view c.add_entry.new.store) c.args.self.now contents c.args.bytes.now told has
    c.add_entry.ensures.writes

pub returns-clause-stands : goal.returns-clause-stands
returns-clause-stands g c = λ told contents has.
    let journal = c.args.self.now in
    let payload = c.args.bytes.now in
    entry_stands_on c.add_entry.result (g.D.Store.view c.args.store.now) (g.D.Store.view c.add_entry.new.store) journal c.add_entry.new.self contents payload
    _ told has c.add_entry.ensures.moved
    (ap (λ (v : JournalView). v.last) c.self.view_is ∙ number_part (form_of journal.current) journal.last payload c.requires.part) c.add_entry.ensures.writes
