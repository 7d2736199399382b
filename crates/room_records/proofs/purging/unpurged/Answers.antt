use Rattle.std.proofs.Common.{◌∙◌, rules}
use Rattle.std.proofs.lemmas.Fn.{filter_same}
use Rattle.room_records.specs.Purging.{is_unpurged}
use Rattle.room_records.proofs.purging.unpurged.Goals as goal

pub returns : goal.returns
returns c =
    c.of.ensures ∙ filter_same _ (is_unpurged c.args.db.now.records) _ (λ x b f' called. (search rules, search rules)) _ _ c.retain.ensures.filtered
