use Rattle.std.proofs.Common.{◌≡◌, List, sym, subst}
use Rattle.std.specs.Option.{option_map}
use Rattle.std.specs.Prelude.{Some, None}
use Rattle.save_session.specs.Sessions.{SessionView, find_session}
use Rattle.save_append.proofs.Finding.{has_head, pool_is}
use Rattle.save_append.proofs.appending.pool_of.Goals as goal

pub unreachable-requires : goal.unreachable-requires
unreachable-requires c =
    let none : c.reader.result.now.head ≡ None = sym (c.in-None.ensures) in
    has_head (find_session c.args.ssid.0 c.sessions.result.now.sessions) c.reader.result.now c.reader.ensures.session c.reader.ensures.value none

pub returns : goal.returns
returns c =
    let P : List SessionView → Type 0 = λ sessions. option_map (λ session. session.head.pool) (find_session c.args.ssid.0 sessions) ≡ Some c.in-Some.head.now.pool in
    subst P c.sessions.ensures.sessions
    (pool_is (find_session c.args.ssid.0 c.sessions.result.now.sessions) c.reader.result.now c.in-Some.head.now c.reader.ensures.session c.reader.ensures.value (sym c.in-Some.ensures))
