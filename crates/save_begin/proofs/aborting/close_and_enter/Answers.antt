use Rattle.std.proofs.Common.{[], ◌∷◌}
use Rattle.std.specs.Prelude.{Ok, Err}
use Rattle.catalog_change.specs.declared.change.Change.TheVariants.{Aborted}
use Rattle.room_command.specs.declared.answer.Answer.TheVariants.{Empty}
use Rattle.room_command.specs.declared.reply.Reply.TheVariants.{Done}
use Rattle.room_effects.specs.Effects.{Close, Enter}
use Rattle.room_effects.specs.Entering.{with_first_file}
use Rattle.room_effects.proofs.Following.{follows_done, follows_fault}
use Rattle.save_begin.proofs.Abandoning.{between_aborted, between_closed, does_aborted, fits_closed, none_now}
use Rattle.save_begin.proofs.aborting.close_and_enter.Goals as goal

pub enter_prepared-requires-clause-fits : goal.enter_prepared-requires-clause-fits
enter_prepared-requires-clause-fits g c =
    fits_closed c.args.ssid c.args.room.now c.close_session.new.self c.requires.between c.requires.open c.close_session.ensures.closed c.args.change c.requires.change c.requires.below

pub returns-in-Ok-clause-follows : goal.returns-in-Ok-clause-follows
returns-in-Ok-clause-follows g c =
    let old = c.args.room.now.room in
    let mid = c.close_session.new.self.room in
    let new = c.enter_prepared.new.room.room in
    let before = g.D.Store.view c.args.store.now in
    let now = g.D.Store.view c.enter_prepared.new.store in
    follows_done (Close c.args.ssid.0 ∷ with_first_file old (Enter c.args.m (Aborted c.args.ssid) ∷ [])) (Done Empty) old new before now
    (does_aborted c.args.m c.args.ssid c.args.change (Ok tt) old mid new before now c.requires.change (record { opens = c.requires.opens; needs = c.requires.open })
    c.close_session.ensures.closed c.in-Ok.ensures.does)

pub returns-in-Ok-clause-between : goal.returns-in-Ok-clause-between
returns-in-Ok-clause-between g c =
    between_aborted c.args.m c.args.ssid c.args.change (Ok tt) c.close_session.new.self.room c.enter_prepared.new.room.room
    (g.D.Store.view c.args.store.now) (g.D.Store.view c.enter_prepared.new.store) c.requires.change
    (between_closed c.args.ssid c.args.room.now c.close_session.new.self c.requires.between c.requires.open c.close_session.ensures.closed c.is_open-is_closed.ensures.room)
    (none_now c.args.ssid c.args.room.now c.close_session.new.self c.requires.between c.requires.open c.close_session.ensures.closed)
    c.in-Ok.ensures.does c.is_open-is_open-in-Ok.ensures.room

pub returns-in-Err-clause-follows : goal.returns-in-Err-clause-follows
returns-in-Err-clause-follows g c =
    let old = c.args.room.now.room in
    let mid = c.close_session.new.self.room in
    let new = c.enter_prepared.new.room.room in
    let before = g.D.Store.view c.args.store.now in
    let now = g.D.Store.view c.enter_prepared.new.store in
    follows_fault (Close c.args.ssid.0 ∷ with_first_file old (Enter c.args.m (Aborted c.args.ssid) ∷ [])) (Done Empty) old new before now c.in-Err.fault
    (does_aborted c.args.m c.args.ssid c.args.change (Err c.in-Err.fault) old mid new before now c.requires.change (record { opens = c.requires.opens; needs = c.requires.open })
    c.close_session.ensures.closed c.in-Err.ensures.does)

pub returns-in-Err-clause-between : goal.returns-in-Err-clause-between
returns-in-Err-clause-between g c =
    between_aborted c.args.m c.args.ssid c.args.change (Err c.in-Err.fault) c.close_session.new.self.room c.enter_prepared.new.room.room
    (g.D.Store.view c.args.store.now) (g.D.Store.view c.enter_prepared.new.store) c.requires.change
    (between_closed c.args.ssid c.args.room.now c.close_session.new.self c.requires.between c.requires.open c.close_session.ensures.closed c.is_open-is_closed.ensures.room)
    (none_now c.args.ssid c.args.room.now c.close_session.new.self c.requires.between c.requires.open c.close_session.ensures.closed)
    c.in-Err.ensures.does c.is_open-is_open-in-Err.ensures.room
