use Rattle.std.proofs.Common.{◌≡◌, ◌+◌, sym, ap, subst, ◌∙◌, arith}
use Rattle.std.proofs.lemmas.List.{take_rest}
use Rattle.byteorder.specs.Endian.{big_number}
use Rattle.cat_journal.specs.Fields.{entry_number_in, entry_size_in}
use Rattle.cat_journal.specs.Reads.{SpellsFields}
use Rattle.cat_journal.proofs.Finding.{spells_fields}
use Rattle.cat_journal.proofs.entries.size_in.Goals as goal

pub returns-clause-spelled : goal.returns-clause-spelled
returns-clause-spelled c =
    let fields = c.args.fields.now in
    let size : entry_size_in fields ≡ c.read_u32-size.result =
    ap (big_number 4) (sym (take_rest fields 8)) ∙ sym c.read_u32-size.ensures in
    let number : entry_number_in fields ≡ c.args.last + 1 =
    sym c.read_u64-number.ensures ∙ sym c.if-branch-number.false ∙ c.in_ok-checked_add.ensures.1 in
    subst (SpellsFields fields (c.args.last + 1)) size
    (spells_fields fields (c.args.last + 1) c.requires (λ i. omega (arith, c.type_inv.fields i)) number)
