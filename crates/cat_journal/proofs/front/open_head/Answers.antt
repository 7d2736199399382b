use Rattle.std.proofs.Common.{◌≤◌, sym, ap, subst, arith}
use Rattle.cat_journal.specs.Layout.{HasForm}
use Rattle.cat_journal.specs.Heads.{IsHeadText, IsFileHead}
use Rattle.cat_journal.specs.declared.front.FileHead.{FileHead}
use Rattle.cat_journal.proofs.HeadsRead.{is_file_head}
use Rattle.cat_journal.proofs.front.open_head.Goals as goal

pub returns-clause-allowed : goal.returns-clause-allowed
returns-clause-allowed c =
    let text = c.args.text.now in
    let same = c.head_in-head.ensures in
    let P : FileHead → Type 0 = λ h. HasForm h.form h.generation × (1 ≤ h.generation) in
    let form = subst P same (c.has_form.ensures.0 c.if-not-has_form.false) in
    let is : IsHeadText text c.args.end = record {
      whole = omega arith;
      form = form.0;
      zeros = c.has_zeros.ensures.0 c.if-not-has_zeros.false;
      first = form.1;
      size = omega (arith, ap (λ (h : FileHead). h.size) same);
    } in
    subst IsFileHead (sym same) (is_file_head text c.args.end is (λ i. omega (arith, c.type_inv.text i)))
