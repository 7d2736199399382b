use Rattle.std.proofs.Common.{drop}
use Rattle.resource_text.specs.Lists.{IsText}
use Rattle.resource_text.proofs.Items.{AreSoFar}
use Rattle.resource_text.proofs.lists.words_of.Given as goal

-- those before the place are read
abbrev pub invariant-loop-value : goal.invariant-loop-value
invariant-loop-value g l =
    AreSoFar (IsText g.W.Word.stands) l.fn.array (drop l.value-index l.fn.array) l.words.items
