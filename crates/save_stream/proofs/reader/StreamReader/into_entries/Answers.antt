use Rattle.std.proofs.Common.{ap, ◌∙◌}
use Rattle.save_stream.specs.Reading.{Reading}
use Rattle.save_stream.specs.View.{reading_of}
use Rattle.save_stream.proofs.SoFar.{so-far-ascend, ended-index}
use Rattle.save_stream.proofs.reader.StreamReader.into_entries.Goals as goal

pub returns-clause-order : goal.returns-clause-order
returns-clause-order c = so-far-ascend (reading_of c.self.inside.state) c.self.invariant

pub returns-clause-index : goal.returns-clause-index
returns-clause-index c = ended-index (reading_of c.self.inside.state) c.self.invariant (ap (λ (r : Reading). r.ended) c.self.view_is ∙ c.requires)
