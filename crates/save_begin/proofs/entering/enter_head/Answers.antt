use Rattle.std.proofs.Common.{ℕ, ◌≤◌, List, length, subst, sym}
use Rattle.std.specs.Prelude.{IfSome}
use Rattle.save_session.specs.Sessions.{find_session}
use Rattle.room_effects.specs.Running.{Does}
use Rattle.room_placing.specs.Placing.{placing}
use Rattle.room_between.specs.Middle.{EndsWith}
use Rattle.save_begin.proofs.Recording.{does_placed, does_unplaced, drives_now, ends_now, middle_now, most_text, open_now}
use Rattle.save_begin.proofs.entering.enter_head.Goals as goal

pub place-requires-clause-most : goal.place-requires-clause-most
place-requires-clause-most g c =
    let L : List ℕ → Type 0 = λ text. length text ≤ 257024 in
    subst L (sym c.as_slice.ensures)
    (most_text c.args.m c.requires.begun.0 c.args.ssid c.args.drive c.args.begun c.args.room.now c.enter_record.new.room c.requires.begun.1
    c.in-Ok.ensures.entered c.in-Ok.ensures.memory)

pub place-requires-clause-open : goal.place-requires-clause-open
place-requires-clause-open g c =
    open_now c.args.m c.requires.begun.0 c.args.ssid c.args.drive c.args.begun c.args.room.now c.enter_record.new.room c.requires.begun.1
    c.in-Ok.ensures.entered c.in-Ok.ensures.memory

pub place-requires-clause-next : goal.place-requires-clause-next
place-requires-clause-next g c =
    let E : List ℕ → Type 0 = λ text. IfSome (find_session c.args.ssid.0 c.enter_record.new.room.room.sessions) (EndsWith 0 text) in
    subst E (sym c.as_slice.ensures)
    (ends_now c.args.m c.requires.begun.0 c.args.ssid c.args.drive c.args.begun c.args.room.now c.enter_record.new.room c.requires.begun.1
    c.in-Ok.ensures.entered c.in-Ok.ensures.memory)

pub place-requires-clause-between : goal.place-requires-clause-between
place-requires-clause-between g c =
    middle_now c.args.m c.requires.begun.0 c.args.ssid c.args.drive c.args.begun c.args.room.now c.enter_record.new.room c.requires.begun.1
    c.in-Ok.ensures.entered c.in-Ok.ensures.memory c.is_open-is_open-in-Ok.ensures.room

pub returns-in-Ok-clause-does : goal.returns-in-Ok-clause-does
returns-in-Ok-clause-does g c =
    let mid = c.enter_record.new.room.room in
    let new = c.place.new.room.room in
    let middle = g.D.Store.view c.enter_record.new.store in
    let now = g.D.Store.view c.place.new.store in
    let P : List ℕ → Type 0 = λ text. Does {T = Unit {0}} (placing c.args.drive c.args.ssid.0 0 text mid) c.place.result mid new middle now in
    does_placed c.args.m c.args.begun.change c.args.drive c.args.ssid.0 c.args.begun.text c.args.room.now.room mid new (g.D.Store.view c.args.store.now) middle now c.place.result
    (drives_now c.args.m c.requires.begun.0 c.args.ssid c.args.drive c.args.begun c.args.room.now c.enter_record.new.room c.requires.begun.1
    c.in-Ok.ensures.entered c.in-Ok.ensures.memory)
    c.in-Ok.ensures.does (subst P c.as_slice.ensures c.place.ensures.does)

pub returns-clause-does : goal.returns-clause-does
returns-clause-does g c =
    does_unplaced c.args.m c.args.begun.change c.args.drive c.args.ssid.0 c.args.begun.text c.args.room.now.room c.enter_record.new.room.room
    (g.D.Store.view c.args.store.now) (g.D.Store.view c.enter_record.new.store) c.in-Err.fault c.in-Err.ensures.does
