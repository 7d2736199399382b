use Rattle.std.proofs.Common.{arith}
use Rattle.catalog_spelling.specs.Snapshots.{catalogue_lent, lists_of}
use Rattle.snapshot_text.proofs.Lengths.{length_lists}
use Rattle.snapshot_text.proofs.encode.resources_length.Goals as goal

pub returns : goal.returns
returns c =
    omega (
      arith,
      c.saturating_add.ensures,
      c.saturating_add-2.ensures,
      c.saturating_add-3.ensures,
      c.first_length.ensures,
      c.items_length.ensures,
      c.items_length-2.ensures,
      length_lists (lists_of (catalogue_lent c.args.parts.now)),
    )
