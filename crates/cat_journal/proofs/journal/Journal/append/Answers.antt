use Rattle.std.proofs.Common.{◌+◌, ◌∙◌, ap}
use Rattle.cat_journal.specs.Journal.{JournalView, form_of}
use Rattle.cat_journal.proofs.Images.{entry_images, entry_stands, number_change, has_as}
use Rattle.cat_journal.specs.Contents.{with_payload}
use Rattle.cat_journal.proofs.journal.Journal.append.Goals as goal

pub returns-clause-images : goal.returns-clause-images
returns-clause-images g c = λ told contents has.
    entry_images (g.D.Store.view c.args.store.now) (g.D.Store.view c.add_entry.new.store) c.args.self.now contents c.args.bytes.now told has
    c.in_ok-add_entry.ensures.writes

pub returns-in_err-add_entry-clause-images : goal.returns-in_err-add_entry-clause-images
returns-in_err-add_entry-clause-images g c = λ told contents has.
    entry_images (g.D.Store.view c.args.store.now) (g.D.Store.view c.add_entry.new.store) c.args.self.now contents c.args.bytes.now told has
    c.in_err-add_entry.ensures.writes

pub returns-clause-stands : goal.returns-clause-stands
returns-clause-stands g c = λ told contents has.
    let journal = c.args.self.now in
    let payload = c.args.bytes.now in
    let now = g.D.Store.view c.add_entry.new.store in
    has_as journal c.add_entry.new.self payload (c.self.inside.last + 1) (with_payload contents payload) now c.in_ok-add_entry.ensures.moved
    (ap (λ (v : JournalView). v.last + 1) c.self.view_is ∙ number_change (form_of journal.current) journal.last payload c.requires.change)
    (entry_stands (g.D.Store.view c.args.store.now) now journal contents payload told has c.in_ok-add_entry.ensures.writes)
