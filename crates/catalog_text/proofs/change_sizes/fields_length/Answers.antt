use Rattle.std.proofs.Common.{sym}
use Rattle.catalog_text.proofs.ChangeLengths.{length-loaded}
use Rattle.catalog_text.proofs.change_sizes.fields_length.Goals as goal

pub returns-in-Loaded-clause-length : goal.returns-in-Loaded-clause-length
returns-in-Loaded-clause-length c = rw c.in-Loaded.is (sym (length-loaded c.in-Loaded.slot c.in-Loaded.cart))
