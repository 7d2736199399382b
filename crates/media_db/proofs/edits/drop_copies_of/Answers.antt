use Rattle.std.proofs.Common.{rules, not}
use Rattle.std.proofs.lemmas.Fn.{filter_same}
use Rattle.media_db.specs.declared.copies.SetCopy.{SetCopy}
use Rattle.media_db.specs.Edits.{is_done_on}
use Rattle.media_db.proofs.edits.drop_copies_of.Goals as goal

pub returns : goal.returns
returns c = filter_same _ (λ (copy : SetCopy). not (is_done_on c.args.volid.0 copy)) _ (λ x b f' called. (search rules, search rules)) _ _ c.retain.ensures.filtered
