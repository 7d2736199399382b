use Rattle.std.proofs.Common.{refl, sym, ap, ◌∙◌}
use Rattle.room_base.specs.declared.fault.Failed.{Failed}
use Rattle.cat_journal.specs.Journal.{JournalView}
use Rattle.room_catalog.specs.Changing.{without_parts}
use Rattle.room_catalog.specs.Held.{CatalogueLists}
use Rattle.room_effects.specs.Effects.{TurnOver, closed}
use Rattle.room_effects.proofs.Entering.{does_turn_over, does_turn_over_broken, does_turn_over_last}
use Rattle.room_state.specs.Inside.{state_view}
use Rattle.room_state.specs.Memory.{without_spare}
use Rattle.room_state.proofs.Doing.{can_in}
use Rattle.room_state.proofs.state.RoomState.turn_over.Goals as goal

pub returns-then-is_at_last-clause-does : goal.returns-then-is_at_last-clause-does
returns-then-is_at_last-clause-does g c =
    let snapshot = c.args.snapshot.now in
    let held = state_view c.self.inside in
    let can = can_in (TurnOver snapshot) held _ c.self.view_is c.requires in
    rw (← c.self.view_is) (does_turn_over_last {T = Unit {0}} snapshot tt held.room (g.D.Store.view c.args.store.now) can
    (sym c.is_at_last.ensures ∙ c.if-is_at_last.true))

pub returns-in-Ok-clause-does : goal.returns-in-Ok-clause-does
returns-in-Ok-clause-does g c =
    let snapshot = c.args.snapshot.now in
    let journal = c.self.inside.journal in
    let held = state_view c.self.inside in
    let room = held.room in
    let can = can_in (TurnOver snapshot) held _ c.self.view_is c.requires in
    let made = ap (λ (lists : CatalogueLists). record room { catalogue = lists; journal = without_spare c.turn_over.new.self }) c.drop_parts.ensures.lists
    ∙ ap (λ (one : JournalView). record room { catalogue = without_parts room.catalogue; journal = one }) c.in-Ok.ensures.moved in
    rw (← c.self.view_is) (does_turn_over {T = Unit {0}} {U = Unit {0}} {E = Failed} snapshot journal tt c.in-Ok.field-0 room _
    (g.D.Store.view c.args.store.now) (g.D.Store.view c.turn_over.new.store) c.self.invariant can refl (sym c.is_at_last.ensures ∙ c.if-is_at_last.false)
    c.in-Ok.ensures.allowed made (g.met.D.Store.is_disk c.args.store.now) c.in-Ok.ensures.writes)

pub returns-in-Err-clause-does : goal.returns-in-Err-clause-does
returns-in-Err-clause-does g c =
    let snapshot = c.args.snapshot.now in
    let journal = c.self.inside.journal in
    let held = state_view c.self.inside in
    let room = held.room in
    let can = can_in (TurnOver snapshot) held _ c.self.view_is c.requires in
    let made = c.shut.ensures ∙ ap (λ (one : JournalView). closed (record room { journal = one })) c.in-Err.ensures.kept in
    rw (← c.self.view_is) (does_turn_over_broken {T = Unit {0}} {U = Unit {0}} {E = Failed} snapshot journal c.in-Err.field-0 room _
    (g.D.Store.view c.args.store.now) (g.D.Store.view c.turn_over.new.store) c.self.invariant can refl (sym c.is_at_last.ensures ∙ c.if-is_at_last.false)
    made (g.met.D.Store.is_disk c.turn_over.new.store) c.in-Err.ensures.writes)
