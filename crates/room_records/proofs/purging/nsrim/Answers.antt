use Rattle.std.proofs.Common.{List, refl}
use Rattle.std.specs.Prelude.{Some, None}
use Rattle.room_base.specs.declared.numbers.Ssid.{Ssid}
use Rattle.room_effects.specs.Checked.{checked}
use Rattle.room_effects.proofs.Following.{follows_no_memory}
use Rattle.room_records.specs.Deleting.{known}
use Rattle.room_records.specs.Purging.{purging}
use Rattle.room_records.proofs.purging.nsrim.Goals as goal

pub returns-in-Ok-clause-follows : goal.returns-in-Ok-clause-follows
returns-in-Ok-clause-follows g c =
    let room = c.args.room.now.room in
    let asked = Some c.in-Ok.ssids in (
      checked {X = List Ssid} (known {X = List Ssid} asked) (λ ssids. purging c.args.m ssids room),
      record { asked = asked; answer = c.in-Ok.ensures; is = refl },
      c.purge.ensures.follows,
    )

pub returns-in-Err-clause-follows : goal.returns-in-Err-clause-follows
returns-in-Err-clause-follows g c =
    let room = c.args.room.now.room in
    let plan = checked {X = List Ssid} (known {X = List Ssid} None) (λ ssids. purging c.args.m ssids room) in
    (plan, record { asked = None; answer = tt; is = refl }, follows_no_memory plan room (g.D.Store.view c.args.store.now))
