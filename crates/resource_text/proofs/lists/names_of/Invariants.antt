use Rattle.std.proofs.Common.{drop}
use Rattle.save_stream.specs.Spelling.{IsNameTo}
use Rattle.resource_text.specs.Reading.{IsItself}
use Rattle.resource_text.specs.Lists.{IsText}
use Rattle.resource_text.proofs.Items.{AreSoFar}
use Rattle.resource_text.proofs.lists.names_of.Given as goal

-- those before the place are read
abbrev pub invariant-loop-value : goal.invariant-loop-value
invariant-loop-value l =
    AreSoFar (IsText (IsItself (IsNameTo l.fn.most))) l.fn.array (drop l.value-index l.fn.array) l.names.items
