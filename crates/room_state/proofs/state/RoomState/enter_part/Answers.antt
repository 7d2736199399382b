use Rattle.std.proofs.Common.{refl, ap, ◌∙◌, subst}
use Rattle.room_base.specs.declared.fault.Failed.{Failed}
use Rattle.cat_journal.specs.Journal.{JournalView, IsKnown}
use Rattle.room_catalog.specs.Changing.{with_part_waiting}
use Rattle.room_catalog.specs.Held.{CatalogueLists}
use Rattle.room_effects.specs.Effects.{EnterPart, closed, part_bytes}
use Rattle.room_effects.proofs.Entering.{does_enter_part, does_enter_part_broken, entry_is_part}
use Rattle.room_effects.proofs.StayingJournal.{stays_enter_part}
use Rattle.room_state.specs.Inside.{state_view}
use Rattle.room_state.specs.Memory.{without_spare}
use Rattle.room_state.proofs.Doing.{can_in}
use Rattle.room_state.proofs.state.RoomState.enter_part.Goals as goal

pub append_part-requires-clause-part : goal.append_part-requires-clause-part
append_part-requires-clause-part g c =
    let held = state_view c.self.inside in
    let can = can_in (EnterPart c.args.m c.args.ssid c.args.part c.args.index) held _ c.self.view_is c.requires.can in
    entry_is_part c.self.inside.journal c.args.m c.args.ssid c.args.part c.args.index can.needs.form

pub invariant_of-self : goal.invariant_of-self
invariant_of-self g c =
    let held = state_view c.self.inside in
    let can = can_in (EnterPart c.args.m c.args.ssid c.args.part c.args.index) held _ c.self.view_is c.requires.can in
    let Known : JournalView → Type 0 = λ journal. IsKnown journal.current in
    rw (c.apply.ensures.lists, c.in-Ok.ensures.moved) (stays_enter_part c.args.m c.args.ssid c.args.part c.args.index held.room c.self.invariant can
    (subst Known c.in-Ok.ensures.moved c.in-Ok.ensures.known))

pub returns-in-Ok-clause-does : goal.returns-in-Ok-clause-does
returns-in-Ok-clause-does g c =
    let m = c.args.m in
    let ssid = c.args.ssid in
    let part = c.args.part in
    let index = c.args.index in
    let journal = c.self.inside.journal in
    let held = state_view c.self.inside in
    let room = held.room in
    let can = can_in (EnterPart m ssid part index) held _ c.self.view_is c.requires.can in
    let made = ap (λ (lists : CatalogueLists). record room { catalogue = lists; journal = without_spare c.append_part.new.self }) c.apply.ensures.lists
    ∙ ap (λ (one : JournalView). record room { catalogue = with_part_waiting ssid part index room.catalogue; journal = one }) c.in-Ok.ensures.moved in
    rw (← c.self.view_is) (does_enter_part {T = Unit {0}} {U = Unit {0}} {E = Failed} m ssid part index journal (part_bytes m ssid part index) tt c.in-Ok.field-0 room _
    (g.D.Store.view c.args.store.now) (g.D.Store.view c.append_part.new.store) c.self.invariant can refl refl c.in-Ok.ensures.written made
    (g.met.D.Store.is_disk c.args.store.now) c.in-Ok.ensures.writes)

pub returns-in-Err-clause-does : goal.returns-in-Err-clause-does
returns-in-Err-clause-does g c =
    let m = c.args.m in
    let ssid = c.args.ssid in
    let part = c.args.part in
    let index = c.args.index in
    let journal = c.self.inside.journal in
    let held = state_view c.self.inside in
    let room = held.room in
    let can = can_in (EnterPart m ssid part index) held _ c.self.view_is c.requires.can in
    let made = c.shut.ensures ∙ ap (λ (one : JournalView). closed (record room { journal = one })) c.in-Err.ensures.kept in
    rw (← c.self.view_is) (does_enter_part_broken {T = Unit {0}} {U = Unit {0}} {E = Failed} m ssid part index journal (part_bytes m ssid part index) c.in-Err.field-0 room _
    (g.D.Store.view c.args.store.now) (g.D.Store.view c.append_part.new.store) c.self.invariant can refl refl c.in-Err.ensures.written made
    (g.met.D.Store.is_disk c.append_part.new.store) c.in-Err.ensures.writes)
