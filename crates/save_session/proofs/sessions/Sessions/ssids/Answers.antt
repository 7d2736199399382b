use Rattle.std.proofs.Common.{List, length, map, subst, ap, ◌∙◌}
use Rattle.room_base.specs.declared.numbers.Ssid.{Ssid}
use Rattle.save_session.specs.Sessions.{SessionsView, SessionView, AreOpenSessions}
use Rattle.save_session.proofs.Keeping.{are_sessions, count_listed, ssids_listed}
use Rattle.save_session.proofs.sessions.Sessions.ssids.Goals as goal

pub returns-clause-value : goal.returns-clause-value
returns-clause-value c =
    c.deref.ensures.value ∙ ssids_listed _ _ c.self.invariant ∙ ap (λ (value : SessionsView). map (λ (v : SessionView). v.head.ssid) value.sessions) c.self.view_is

pub returns-clause-sessions : goal.returns-clause-sessions
returns-clause-sessions c = subst (λ (v : SessionsView). AreOpenSessions v.sessions) c.self.view_is (are_sessions _ _ c.self.invariant)

pub returns-clause-count : goal.returns-clause-count
returns-clause-count c = ap (λ (xs : List Ssid). length xs) (c.deref.ensures.value) ∙ count_listed _ _ c.self.invariant ∙ ap (λ (v : SessionsView). length v.sessions) c.self.view_is
