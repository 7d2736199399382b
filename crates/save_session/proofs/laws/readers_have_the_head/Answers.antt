use Rattle.save_session.proofs.Heading.{reader_has_head}
use Rattle.save_session.proofs.laws.readers_have_the_head.Goals as goal

pub returns : goal.returns
returns c = reader_has_head
