use Rattle.std.proofs.Common.{◌∙◌, rules, not}
use Rattle.std.specs.Prelude.{◌==◌}
use Rattle.std.proofs.lemmas.Fn.{filter_same}
use Rattle.media_db.specs.declared.copies.SetCopy.{SetCopy}
use Rattle.media_db.specs.Edits.{copy_no}
use Rattle.media_db.proofs.CopyLists.{without_number}
use Rattle.media_db.proofs.edits.remove_copy_of.Goals as goal

pub returns : goal.returns
returns c =
    let kept = filter_same _ (λ (copy : SetCopy). not (copy.no.0 == c.args.no.0)) _ (λ x b f' called. (search rules, search rules)) _ _ c.retain.ensures.filtered in
    kept ∙ without_number copy_no c.args.no.0 c.args.copies.now.items
