use Rattle.std.proofs.Common.{List, ap, ◌∙◌, sym, subst}
use Rattle.std.specs.Global.{Vec}
use Rattle.std.specs.Prelude.{Option}
use Rattle.room_base.specs.declared.numbers.Ssid.{Ssid}
use Rattle.room_base.specs.declared.fault.Failed.{Failed}
use Rattle.room_base.specs.declared.refusal.Refusal.TheVariants.{DeviceFault}
use Rattle.slot_changer.specs.Drives.{DriveView}
use Rattle.room_effects.specs.Effects.{Commit}
use Rattle.room_effects.specs.View.{RoomView, IsRoom}
use Rattle.room_effects.proofs.Driving.{does_commit, does_commit_broken}
use Rattle.room_effects.proofs.Staying.{stays_commit, stays_commit_broken}
use Rattle.room_state.specs.Commits.{asking_number}
use Rattle.room_state.specs.Inside.{state_view}
use Rattle.room_state.proofs.Doing.{can_in}
use Rattle.room_state.proofs.Losing.{lost_fault, lost_room}
use Rattle.room_state.proofs.state.RoomState.commit.Goals as goal

pub invariant_of-self : goal.invariant_of-self
invariant_of-self g c =
    let held = state_view c.self.inside in
    let drive = c.args.drive in
    let asking = asking_number c.args.asking in
    rw c.in-Ok.ensures.committed
    (stays_commit drive asking held.room c.self.invariant (can_in (Commit drive asking) held _ c.self.view_is c.requires.can))

pub invariant_of-self-in-Err : goal.invariant_of-self-in-Err
invariant_of-self-in-Err g c =
    let held = state_view c.self.inside in
    let drive = c.args.drive in
    let asking = asking_number c.args.asking in
    let can = can_in (Commit drive asking) held _ c.self.view_is c.requires.can in
    let lost = c.lose_drive-file.ensures in
    let made = lost_room drive asking held.room _ _ _ c.self.invariant.drives.four can.needs.0 c.in-Err.ensures.failed lost.sessions lost.drives in
    let Is : RoomView → Type 0 = λ room. IsRoom room in
    subst Is (sym made) (stays_commit_broken drive asking held.room c.self.invariant can)

pub returns-in-Ok-clause-does : goal.returns-in-Ok-clause-does
returns-in-Ok-clause-does g c =
    let held = state_view c.self.inside in
    let drive = c.args.drive in
    let asking = asking_number c.args.asking in
    let can = can_in (Commit drive asking) held _ c.self.view_is c.requires.can in
    let made = ap (λ (drives : List (Option DriveView)). record held.room { drives = drives }) c.in-Ok.ensures.committed in
    rw (← c.self.view_is) (does_commit {T = Unit {0}} (Unit {0}) Failed drive asking tt c.in-Ok.field-0 held.room _
    (g.D.Store.view c.args.store.now) (g.D.Store.view c.commit.new.store) c.self.invariant can made
    (g.met.D.Store.is_disk c.args.store.now) c.in-Ok.ensures.writes)

pub returns-in-Err-clause-does : goal.returns-in-Err-clause-does
returns-in-Err-clause-does g c =
    let held = state_view c.self.inside in
    let drive = c.args.drive in
    let asking = asking_number c.args.asking in
    let can = can_in (Commit drive asking) held _ c.self.view_is c.requires.can in
    let lost = c.lose_drive-file.ensures in
    let made = lost_room drive asking held.room _ _ _ c.self.invariant.drives.four can.needs.0 c.in-Err.ensures.failed lost.sessions lost.drives in
    let closed = c.of-closed.ensures ∙ ap (λ (list : Vec Ssid). list.items) c.replace.ensures.value ∙ lost.closed in
    let named = lost_fault drive asking held.room _ c.lose_drive-file.result c.of-closed.result c.self.invariant.drives.four can.needs.0
    c.in-Err.ensures.failed lost.file closed in
    rw (← c.self.view_is) (does_commit_broken {T = Unit {0}} (Unit {0}) Failed drive asking (DeviceFault c.lose_drive-file.result c.of-closed.result)
    c.in-Err.field-0 held.room _ (g.D.Store.view c.args.store.now) (g.D.Store.view c.commit.new.store) c.self.invariant can made named
    (g.met.D.Store.is_disk c.commit.new.store) c.in-Err.ensures.writes)
