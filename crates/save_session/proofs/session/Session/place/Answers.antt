use Rattle.save_session.specs.Kept.{session_view}
use Rattle.save_session.proofs.Sending.{part_is}
use Rattle.save_session.proofs.session.Session.place.Goals as goal

pub returns-clause-kept : goal.returns-clause-kept
returns-clause-kept c = record {
  is = rw c.add_part.ensures.items (part_is (session_view c.args.self.now) c.args.drive c.args.part c.requires.kept.is c.requires.part);
  held = c.requires.kept.held;
  next = c.requires.kept.next;
}
