use Rattle.std.proofs.Common.{arith}
use Rattle.snapshot_text.proofs.encode.first_length.Goals as goal

pub returns : goal.returns
returns c = omega (arith, c.saturating_add.ensures, c.saturating_add-2.ensures, c.items_length.ensures, c.items_length-2.ensures, c.items_length-3.ensures)
