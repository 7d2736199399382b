use Rattle.std.proofs.Common.{sym, subst}
use Rattle.save_stream.specs.Spelling.{PathsAscend}
use Rattle.save_stream.specs.View.{reading_of}
use Rattle.save_stream.proofs.SoFar.{so-far-ascend}
use Rattle.save_stream.proofs.reader.StreamReader.entries.Goals as goal

pub returns-clause-order : goal.returns-clause-order
returns-clause-order c = subst PathsAscend (sym c.deref.ensures.value) (so-far-ascend (reading_of c.self.inside.state) c.self.invariant)
