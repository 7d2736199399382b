use Rattle.std.proofs.Common.{◌≡◌, ◌++◌, take, drop, map}
use Rattle.save_session.specs.Kept.{left_by}
use Rattle.save_session.proofs.sessions.leave_all.Given as goal

abbrev pub invariant-loop-session : goal.invariant-loop-session
invariant-loop-session l =
    l.sessions ≡ map (left_by l.drive) (take l.session-index l.initial.sessions) ++ drop l.session-index l.initial.sessions
