use Rattle.std.proofs.Common.{◌≡◌, List, false, subst, sym, ◌∙◌}
use Rattle.std.specs.Option.{is_some}
use Rattle.save_session.specs.Sessions.{SessionView, find_session}
use Rattle.save_finish.proofs.Planning.{answered_again, refused_again}
use Rattle.save_finish.proofs.finishing.finish.Goals as goal

pub returns-in-Ok-clause-follows : goal.returns-in-Ok-clause-follows
returns-in-Ok-clause-follows g c =
    let room = c.args.room.now.room in
    let N : List SessionView → Type 0 = λ sessions. is_some (find_session c.args.ssid.0 sessions) ≡ false in
    let none = subst N c.sessions.ensures.sessions (sym c.is_open.ensures ∙ c.if-is_open.false) in
    answered_again c.args.m c.args.ssid c.args.length c.args.sha256 room (find_session c.args.ssid.0 room.sessions) c.in-Ok.answer (g.D.Store.view c.args.store.now) none c.in-Ok.ensures

pub returns-in-Err-clause-follows : goal.returns-in-Err-clause-follows
returns-in-Err-clause-follows g c =
    let room = c.args.room.now.room in
    let N : List SessionView → Type 0 = λ sessions. is_some (find_session c.args.ssid.0 sessions) ≡ false in
    let none = subst N c.sessions.ensures.sessions (sym c.is_open.ensures ∙ c.if-is_open.false) in
    refused_again c.args.m c.args.ssid c.args.length c.args.sha256 room (find_session c.args.ssid.0 room.sessions) c.in-Err.refusal (g.D.Store.view c.args.store.now) none c.in-Err.ensures
