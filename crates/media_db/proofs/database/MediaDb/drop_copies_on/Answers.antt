use Rattle.std.proofs.Common.{rules, sym, subst, ap, ◌∙◌}
use Rattle.media_db.specs.Edits.{has_copy_if_complete, without_copies_on}
use Rattle.media_db.specs.declared.records.Record.{Record}
use Rattle.media_db.specs.Rows.{AreRecords}
use Rattle.media_db.proofs.Dropped.{retained, records_dropped}
use Rattle.media_db.proofs.database.MediaDb.drop_copies_on.Goals as goal

pub invariant_of-self : goal.invariant_of-self
invariant_of-self c =
    let test = λ (row : Record). has_copy_if_complete (without_copies_on c.args.volid.0 row) in
    let left = retained _ test (without_copies_on c.args.volid.0) _ (λ x b g y h. let met = h.called.met.0 in (met.0 ∙ ap test h.shows, sym h.leaves ∙ met.1 ∙ ap (without_copies_on c.args.volid.0) h.shows, search rules)) _ _ c.retain_mut.ensures.filtered in
    (subst AreRecords (sym left) (records_dropped c.args.volid.0 _ c.self.invariant.0), c.self.invariant.1)

pub returns-clause-records : goal.returns-clause-records
returns-clause-records c =
    let test = λ (row : Record). has_copy_if_complete (without_copies_on c.args.volid.0 row) in
    let left = retained _ test (without_copies_on c.args.volid.0) _ (λ x b g y h. let met = h.called.met.0 in (met.0 ∙ ap test h.shows, sym h.leaves ∙ met.1 ∙ ap (without_copies_on c.args.volid.0) h.shows, search rules)) _ _ c.retain_mut.ensures.filtered in
    rw (← c.self.view_is) left
