use Rattle.std.proofs.Common.{◌≡◌, List, subst}
use Rattle.std.specs.Option.{option_map}
use Rattle.std.specs.Prelude.{Some}
use Rattle.save_session.specs.Sessions.{SessionView, find_session}
use Rattle.save_append.proofs.Finding.{drive_is}
use Rattle.save_append.proofs.appending.drive_of.Goals as goal

pub drive_for-requires : goal.drive_for-requires
drive_for-requires c =
    let D : List SessionView → Type 0 = λ sessions. option_map (λ session. session.drive) (find_session c.args.ssid.0 sessions) ≡ Some c.drive-held.result in
    drive_is c.args.ssid.0 c.args.room.now.room c.drive-held.result c.is_open-is_open.ensures.room (subst D c.sessions.ensures.sessions c.drive-held.ensures)
