use Rattle.std.proofs.Common.{sym}
use Rattle.save_session.specs.Sessions.{placed_on}
use Rattle.room_state.proofs.Placing.{not_changed}
use Rattle.room_state.proofs.sending.place_part.Goals as goal

pub returns-else-is_open-clause-sessions : goal.returns-else-is_open-clause-sessions
returns-else-is_open-clause-sessions c =
    not_changed c.args.ssid.0 (placed_on c.args.drive c.args.part) c.args.sessions.now.sessions (sym c.if-is_open.ensures)
