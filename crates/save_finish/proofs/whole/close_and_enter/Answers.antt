use Rattle.std.proofs.Common.{◌∷◌, [], ap, sym, subst, ◌∙◌}
use Rattle.std.specs.Prelude.{Ok, Err}
use Rattle.catalog_change.specs.declared.change.Change.{Change}
use Rattle.catalog_change.specs.declared.change.Change.TheVariants.{Finished}
use Rattle.save_session.specs.Sessions.{SessionView, find_session}
use Rattle.room_effects.specs.Effects.{Close, Enter, after_done}
use Rattle.room_effects.specs.Needs.{CanDo}
use Rattle.room_effects.specs.Running.{Does}
use Rattle.room_effects.proofs.Memory.{after_one}
use Rattle.save_finish.specs.Ended.{HasEnded, IsStreamOf}
use Rattle.save_finish.specs.Ending.{finished_whole}
use Rattle.save_finish.specs.Prepared.{IsReadyToEnter}
use Rattle.save_finish.proofs.Entering.{between_closed, between_enter, can_close, can_enter, change_is, index_handed, of_some, there, to_some}
use Rattle.save_finish.proofs.Following.{does_closed}
use Rattle.save_finish.proofs.whole.close_and_enter.Goals as goal

pub enter-requires-clause-can : goal.enter-requires-clause-can
enter-requires-clause-can g c =
    let room = c.args.room.now.room in
    let found = find_session c.args.ssid.0 room.sessions in
    let closing = c.finish_session-index in
    let it = there HasEnded found c.requires.may.ended in
    let is = of_some (IsStreamOf c.args.stream) found it.one it.is c.requires.stream in
    let enter = of_some (IsReadyToEnter c.args.ssid c.args.room.now) found it.one it.is c.requires.entry in
    let same = change_is c.args.ssid c.args.stream it.one c.of.result is (c.of.ensures ∙ index_handed found it.one closing.result.items it.is closing.ensures.index) in
    let C : Change → Type 0 = λ change. CanDo (Enter c.args.m change) closing.new.self.room in
    subst C (sym same) (can_enter c.args.m c.args.ssid it.one room c.requires.may it.is closing.new.self.room closing.ensures.closed c.requires.moment is.count (enter.short c.args.m))

pub returns-in-Ok-clause-does : goal.returns-in-Ok-clause-does
returns-in-Ok-clause-does g c =
    let room = c.args.room.now.room in
    let found = find_session c.args.ssid.0 room.sessions in
    let before = g.D.Store.view c.args.store.now in
    let now = g.D.Store.view c.enter.new.store in
    let closing = c.finish_session-index in
    let change = Finished c.args.ssid c.args.stream.files c.args.stream.bytes c.args.stream.digest c.args.stream.sections c.of.result in
    let P : SessionView → Type 0 = λ session. Does {T = Unit {0}} (Close c.args.ssid.0 ∷ (Enter c.args.m (finished_whole c.args.ssid session) ∷ [])) (Ok tt) room c.enter.new.self.room before now in
    to_some P found (λ session at.
    (let same = change_is c.args.ssid c.args.stream session c.of.result (of_some (IsStreamOf c.args.stream) found session at c.requires.stream)
    (c.of.ensures ∙ index_handed found session closing.result.items at closing.ensures.index) in
    does_closed c.args.m c.args.ssid (Enter c.args.m change ∷ []) (Enter c.args.m (finished_whole c.args.ssid session) ∷ []) (Ok tt) room closing.new.self.room c.enter.new.self.room before now
    (can_close c.args.ssid.0 room c.requires.may) closing.ensures.closed (ap (λ (one : Change). Enter c.args.m one ∷ []) same) c.in-Ok.ensures.does))

pub returns-in-Err-clause-does : goal.returns-in-Err-clause-does
returns-in-Err-clause-does g c =
    let room = c.args.room.now.room in
    let found = find_session c.args.ssid.0 room.sessions in
    let before = g.D.Store.view c.args.store.now in
    let now = g.D.Store.view c.enter.new.store in
    let closing = c.finish_session-index in
    let change = Finished c.args.ssid c.args.stream.files c.args.stream.bytes c.args.stream.digest c.args.stream.sections c.of.result in
    let P : SessionView → Type 0 = λ session. Does {T = Unit {0}} (Close c.args.ssid.0 ∷ (Enter c.args.m (finished_whole c.args.ssid session) ∷ [])) (Err c.in-Err.fault) room c.enter.new.self.room before now in
    to_some P found (λ session at.
    (let same = change_is c.args.ssid c.args.stream session c.of.result (of_some (IsStreamOf c.args.stream) found session at c.requires.stream)
    (c.of.ensures ∙ index_handed found session closing.result.items at closing.ensures.index) in
    does_closed c.args.m c.args.ssid (Enter c.args.m change ∷ []) (Enter c.args.m (finished_whole c.args.ssid session) ∷ []) (Err c.in-Err.fault) room closing.new.self.room c.enter.new.self.room before now
    (can_close c.args.ssid.0 room c.requires.may) closing.ensures.closed (ap (λ (one : Change). Enter c.args.m one ∷ []) same) c.in-Err.ensures.does))

pub returns-in-Ok-clause-between : goal.returns-in-Ok-clause-between
returns-in-Ok-clause-between g c =
    let room = c.args.room.now.room in
    let found = find_session c.args.ssid.0 room.sessions in
    let closing = c.finish_session-index in
    let mid = closing.new.self.room in
    let it = there HasEnded found c.requires.may.ended in
    let is = of_some (IsStreamOf c.args.stream) found it.one it.is c.requires.stream in
    let enter = of_some (IsReadyToEnter c.args.ssid c.args.room.now) found it.one it.is c.requires.entry in
    let same = change_is c.args.ssid c.args.stream it.one c.of.result is (c.of.ensures ∙ index_handed found it.one closing.result.items it.is closing.ensures.index) in
    let change = Finished c.args.ssid c.args.stream.files c.args.stream.bytes c.args.stream.digest c.args.stream.sections c.of.result in
    let made = after_one {T = Unit {0}} (Enter c.args.m change) c.in-Ok.field-0 mid c.enter.new.self.room (g.D.Store.view c.args.store.now) (g.D.Store.view c.enter.new.store) c.in-Ok.ensures.does in
    let can = can_enter c.args.m c.args.ssid it.one room c.requires.may it.is mid closing.ensures.closed c.requires.moment is.count (enter.short c.args.m) in
    between_enter c.args.m c.args.ssid it.one room mid c.enter.new.self.room closing.ensures.closed
    (between_closed c.args.m c.args.ssid it.one room c.requires.may it.is mid closing.ensures.closed c.is_open-is_closed.ensures.room) can.needs c.is_open-is_entered.ensures.room
    (made ∙ ap (λ (one : Change). after_done (Enter c.args.m one) mid) same)
