use Rattle.std.proofs.Common.{sym, ap, ◌∙◌, ◌-◌, ◌≡◌, length}
use Rattle.save_session.specs.Parts.{end_in_file_of}
use Rattle.save_session.proofs.Placing.{part_joins}
use Rattle.save_session.proofs.session.add_part.Goals as goal

pub returns-then-end_in_file_of-clause-items : goal.returns-then-end_in_file_of-clause-items
returns-then-end_in_file_of-clause-items c =
    let sections = c.args.sections.now in
    let one = ap (end_in_file_of c.args.part) (sym c.deref.ensures.value) ∙ sym c.end_in_file_of.ensures ∙ c.if-end_in_file_of.true in
    let place : c.len-at.result - 1 ≡ length sections.items - 1 = ap (λ n. n - 1) (c.len-at.ensures ∙ sections.ok.0) in
    rw (place, c.min-last.ensures, c.max-last.ensures) (part_joins sections.items c.index_mut-last.result.now c.args.part one (rw place at c.index_mut-last.ensures.value))
