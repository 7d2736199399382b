use Rattle.std.proofs.Common.{◌≡◌, ◌∙◌, ◌++◌, ℕ, List, ap, drop, length, map, subst, sym, take}
use Rattle.std.proofs.lemmas.List.{length-map}
use Rattle.save_session.specs.declared.session.Session.{Session}
use Rattle.save_session.specs.Kept.{AreSessionsKept, left_by, room_of, session_view}
use Rattle.save_session.proofs.Keeping.{kept_left, rooms_left, views_left, written_back}
use Rattle.save_session.proofs.sessions.Sessions.left.Goals as goal

-- all sessions are written back
left : (drive n : ℕ) (old lent new : List Session) → n ≡ length old → lent ≡ old → new ≡ map (left_by drive) lent
    → take n (new ++ drop (length new) old) ≡ map (left_by drive) old
left drive n old lent new long is made =
    let done : new ≡ map (left_by drive) old = made ∙ ap (map (left_by drive)) is in
    written_back new old n (ap (λ (xs : List Session). length xs) done ∙ length-map old (left_by drive) ∙ sym long) (sym long) ∙ done

pub invariant_of-self : goal.invariant_of-self
invariant_of-self c =
    let sessions = c.self.inside.sessions in
    subst (λ (xs : List Session). AreSessionsKept c.self.inside.ssids.items xs)
    (sym (left c.args.drive sessions.len sessions.items c.deref_mut.result.now c.leave_all.new.sessions sessions.ok.0 c.deref_mut.ensures.value c.leave_all.ensures))
    (kept_left c.args.drive _ _ c.self.invariant)

pub returns-clause-sessions : goal.returns-clause-sessions
returns-clause-sessions c =
    let sessions = c.self.inside.sessions in
    let all = left c.args.drive sessions.len sessions.items c.deref_mut.result.now c.leave_all.new.sessions sessions.ok.0 c.deref_mut.ensures.value c.leave_all.ensures in
    rw (← c.self.view_is) (ap (map session_view) all ∙ views_left c.args.drive sessions.items)

pub returns-clause-rooms : goal.returns-clause-rooms
returns-clause-rooms c =
    let sessions = c.self.inside.sessions in
    let all = left c.args.drive sessions.len sessions.items c.deref_mut.result.now c.leave_all.new.sessions sessions.ok.0 c.deref_mut.ensures.value c.leave_all.ensures in
    rw (← c.self.view_is) (ap (map room_of) all ∙ rooms_left c.args.drive sessions.items)
