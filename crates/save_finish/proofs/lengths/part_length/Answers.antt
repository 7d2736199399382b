use Rattle.std.proofs.Common.{List, ap, length, ◌∙◌}
use Rattle.std.specs.List.{flat_map}
use Rattle.save_stream.specs.declared.entry.IndexEntry.{IndexEntry}
use Rattle.catalog_spelling.specs.Entries.{entry_text}
use Rattle.save_finish.proofs.IndexParts.{cut_part}
use Rattle.save_finish.proofs.lengths.part_length.Goals as goal

pub returns-clause-length : goal.returns-clause-length
returns-clause-length c =
    c.items_length.ensures.length
    ∙ ap (λ (entries : List IndexEntry). length (flat_map entry_text entries)) (cut_part c.args.part c.min.result c.args.entries.now c.min.ensures)
