use Rattle.std.proofs.Common.{◌∙◌}
use Rattle.room_effects.specs.Effects.{entry_bytes}
use Rattle.room_state.specs.Inside.{journal_view}
use Rattle.room_state.proofs.Writing.{wrote_text}
use Rattle.room_state.proofs.entries.EntryJournal.append_part.Goals as goal
use Rattle.room_state.proofs.entries.EntryJournal.append_part.Goals.{in-Ok, in-Err}

pub returns-clause-writes : goal.returns-clause-writes
returns-clause-writes g c =
    let entry = entry_bytes c.args.m c.args.part.now in
    let text = c.deref.ensures.value ∙ c.spell.ensures.text in
    rw (← c.self.view_is) (elim c.match-append_part.branch [
      | in-Ok w ↦ rw w.result-is (wrote_text _ (journal_view c.self.inside) _ entry _ _ text w.in-Ok.ensures.writes)
      | in-Err w ↦ rw w.result-is (wrote_text _ (journal_view c.self.inside) _ entry _ _ text w.in-Err.ensures.writes)
    ])
