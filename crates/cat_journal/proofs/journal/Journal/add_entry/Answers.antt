use Rattle.std.proofs.Common.{◌∙◌, ap, sym}
use Rattle.std.proofs.lemmas.Result.{err_from_is_err_and}
use Rattle.room_disk.proofs.Writing.{writes_failed, writes_change}
use Rattle.cat_journal.specs.Journal.{JournalView, AddsEntry, MayAddEntry}
use Rattle.cat_journal.proofs.Adding.{writes_entry}
use Rattle.cat_journal.proofs.Writing.{writes_value}
use Rattle.cat_journal.proofs.journal.Journal.add_entry.Goals as goal

pub returns-in_err-gate-clause-writes : goal.returns-in_err-gate-clause-writes
returns-in_err-gate-clause-writes g c =
    let journal = c.args.self.now in
    let payload = c.args.bytes.now in
    writes_failed (AddsEntry journal payload) (MayAddEntry journal payload) (err_from_is_err_and c.from_residual.result c.from_residual.ensures.1).1
    (writes_change (writes_entry journal c.in-Some.current c.self.inside.last payload
    (ap (λ (v : JournalView). v.current) (sym c.self.view_is) ∙ c.in-Some.is) (ap (λ (v : JournalView). v.last) (sym c.self.view_is))
    (record { counted = c.requires.number; short = c.requires.short }) c.in_err-gate.ensures.writes))
    (λ old new torn. torn)

pub returns-clause-writes : goal.returns-clause-writes
returns-clause-writes g c =
    writes_value _ (writes_entry c.args.self.now c.in-Some.current c.self.inside.last c.args.bytes.now
    (ap (λ (v : JournalView). v.current) (sym c.self.view_is) ∙ c.in-Some.is) (ap (λ (v : JournalView). v.last) (sym c.self.view_is))
    (record { counted = c.requires.number; short = c.requires.short }) c.in_ok-gate.ensures.writes)
