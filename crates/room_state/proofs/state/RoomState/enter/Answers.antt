use Rattle.std.proofs.Common.{ℕ, refl, ap, ◌∙◌}
use Rattle.room_base.specs.declared.fault.Failed.{Failed}
use Rattle.cat_journal.specs.Journal.{JournalView}
use Rattle.room_catalog.specs.Changing.{catalogue_after}
use Rattle.room_catalog.specs.Held.{CatalogueLists}
use Rattle.room_effects.specs.Effects.{Enter, closed, entry_bytes}
use Rattle.room_effects.proofs.Entering.{does_enter, does_enter_broken, entry_is_whole}
use Rattle.room_state.specs.Inside.{state_view}
use Rattle.room_state.specs.Memory.{without_spare}
use Rattle.room_state.proofs.Doing.{can_in, whole_after}
use Rattle.room_state.proofs.state.RoomState.enter.Goals as goal

pub append-requires-clause-whole : goal.append-requires-clause-whole
append-requires-clause-whole g c =
    let held = state_view c.self.inside in
    let can = can_in (Enter c.args.m c.args.change) held _ c.self.view_is c.requires.can in
    entry_is_whole c.self.inside.journal c.args.m c.args.change can.needs.whole

pub returns-in-Ok-clause-does : goal.returns-in-Ok-clause-does
returns-in-Ok-clause-does g c =
    let m = c.args.m in
    let change = c.args.change in
    let journal = c.self.inside.journal in
    let held = state_view c.self.inside in
    let room = held.room in
    let can = can_in (Enter m change) held _ c.self.view_is c.requires.can in
    let made = ap (λ (lists : CatalogueLists). record room { catalogue = lists; journal = without_spare c.append.new.self })
    (c.apply.ensures.lists ∙ whole_after m change room.catalogue can.needs.whole)
    ∙ ap (λ (one : JournalView). record room { catalogue = catalogue_after m change room.catalogue; journal = one }) c.in-Ok.ensures.moved in
    rw (← c.self.view_is) (does_enter {T = Unit {0}} {U = ℕ} {E = Failed} m change journal (entry_bytes m change) tt c.in-Ok.number room _
    (g.D.Store.view c.args.store.now) (g.D.Store.view c.append.new.store) c.self.invariant can refl refl c.in-Ok.ensures.written made
    (g.met.D.Store.is_disk c.args.store.now) c.in-Ok.ensures.writes)

pub returns-in-Err-clause-does : goal.returns-in-Err-clause-does
returns-in-Err-clause-does g c =
    let m = c.args.m in
    let change = c.args.change in
    let journal = c.self.inside.journal in
    let held = state_view c.self.inside in
    let room = held.room in
    let can = can_in (Enter m change) held _ c.self.view_is c.requires.can in
    let made = c.shut.ensures ∙ ap (λ (one : JournalView). closed (record room { journal = one })) c.in-Err.ensures.kept in
    rw (← c.self.view_is) (does_enter_broken {T = Unit {0}} {U = ℕ} {E = Failed} m change journal (entry_bytes m change) c.in-Err.field-0 room _
    (g.D.Store.view c.args.store.now) (g.D.Store.view c.append.new.store) c.self.invariant can refl refl c.in-Err.ensures.written made
    (g.met.D.Store.is_disk c.append.new.store) c.in-Err.ensures.writes)
