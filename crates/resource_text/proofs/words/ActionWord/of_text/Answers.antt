use Rattle.std.proofs.Common.{rules, inl, inr}
use Rattle.resource_text.proofs.words.ActionWord.of_text.Goals as goal

pub returns-in-None : goal.returns-in-None
returns-in-None c byte (inl level) = c.in-None.ensures byte level
returns-in-None c byte (inr skip) = search (rules, skip.0, c.if-eq.ensures)
