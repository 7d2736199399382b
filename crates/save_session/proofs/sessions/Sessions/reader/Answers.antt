use Rattle.save_session.specs.Kept.{session_view}
use Rattle.save_session.specs.Sessions.{IsSession}
use Rattle.save_session.proofs.Views.{to_some}
use Rattle.save_session.proofs.sessions.Sessions.reader.Goals as goal

pub returns-clause-session : goal.returns-clause-session
returns-clause-session c = to_some IsSession _ (session_view c.session.result.now) c.session.ensures.found c.session.ensures.kept.is
