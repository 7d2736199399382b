use Rattle.std.proofs.Common.{◌++◌, refl, ap, ◌∙◌, List, ℕ}
use Rattle.cat_journal.proofs.Spelling.{entry_parts}
use Rattle.cat_journal.proofs.entry.spell_entry.Goals as goal

pub returns : goal.returns
returns c =
    ap (λ (t : List ℕ). c.spell_fields.new.into ++ t) c.spell_end.ensures
    ∙ entry_parts c.args.number c.args.bytes.now c.spell_fields.new.into _ c.spell_fields.ensures refl
