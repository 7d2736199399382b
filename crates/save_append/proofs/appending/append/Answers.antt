use Rattle.std.proofs.Common.{◌≡◌, true, false, List, [], length, refl, sym, subst}
use Rattle.std.specs.Option.{is_some}
use Rattle.room_base.specs.declared.refusal.Refusal.TheVariants.{Gap, NotOpen, PieceTooLong}
use Rattle.room_command.specs.declared.answer.Answer.TheVariants.{Next}
use Rattle.room_command.specs.declared.reply.Reply.TheVariants.{Done}
use Rattle.save_session.specs.declared.checked.Checked.TheVariants as checks
use Rattle.save_session.specs.Sessions.{SessionView, check_open, find_session}
use Rattle.room_effects.proofs.Does.{does_none}
use Rattle.room_effects.specs.Plans.{Do, Follows, Plan, Refuse}
use Rattle.room_effects.proofs.Following.{follows_done, follows_refusal}
use Rattle.save_append.specs.Appending.{max_piece}
use Rattle.save_append.proofs.Planning.{of_checked, of_long, of_new, of_none}
use Rattle.save_append.proofs.appending.append.Goals as goal

pub returns-then-not-is_open-clause-follows : goal.returns-then-not-is_open-clause-follows
returns-then-not-is_open-clause-follows g c =
    let room = c.args.room.now.room in
    let S : List SessionView → Type 0 = λ sessions. is_some (find_session c.args.ssid.0 sessions) ≡ false in
    let none = subst S c.sessions.ensures.sessions (sym c.if-not-is_open.ensures) in (
      Refuse (NotOpen c.args.ssid),
      of_none c.args.ssid c.args.offset c.args.piece.now room (find_session c.args.ssid.0 room.sessions) none,
      follows_refusal (NotOpen c.args.ssid) room (g.D.Store.view c.args.store.now),
    )

pub returns-then-length-gt-MAX_PIECE-clause-follows :
    goal.returns-then-length-gt-MAX_PIECE-clause-follows
returns-then-length-gt-MAX_PIECE-clause-follows g c =
    let room = c.args.room.now.room in
    let S : List SessionView → Type 0 = λ sessions. is_some (find_session c.args.ssid.0 sessions) ≡ true in
    let some = subst S c.sessions.ensures.sessions (sym c.if-not-is_open.ensures) in (
      Refuse (PieceTooLong max_piece),
      of_long c.args.ssid c.args.offset c.args.piece.now room (find_session c.args.ssid.0 room.sessions) some c.if-length-gt-MAX_PIECE.true,
      follows_refusal (PieceTooLong max_piece) room (g.D.Store.view c.args.store.now),
    )

pub returns-in-Repeat-clause-follows : goal.returns-in-Repeat-clause-follows
returns-in-Repeat-clause-follows g c =
    let room = c.args.room.now.room in
    let disk = g.D.Store.view c.args.store.now in
    let found = find_session c.args.ssid.0 room.sessions in
    let next = c.in-Repeat.next in
    let reply = Done (Next next) in
    let S : List SessionView → Type 0 = λ sessions. is_some (find_session c.args.ssid.0 sessions) ≡ true in
    let C : List SessionView → Type 0 = λ sessions. checks.Repeat next ≡ check_open (find_session c.args.ssid.0 sessions) c.args.offset (length c.args.piece.now) in (
      Do [] reply,
      of_checked c.args.ssid c.args.offset c.args.piece.now room (checks.Repeat next) (Do [] reply) found (subst S c.sessions.ensures.sessions (sym c.if-not-is_open.ensures))
          c.if-length-gt-MAX_PIECE.false (subst C c.sessions-2.ensures.sessions c.in-Repeat.ensures) (λ session. refl),
      follows_done [] reply room room disk disk (does_none {T = Unit {0}} tt room disk),
    )

pub returns-in-Gap-clause-follows : goal.returns-in-Gap-clause-follows
returns-in-Gap-clause-follows g c =
    let room = c.args.room.now.room in
    let found = find_session c.args.ssid.0 room.sessions in
    let expected = c.in-Gap.expected in
    let S : List SessionView → Type 0 = λ sessions. is_some (find_session c.args.ssid.0 sessions) ≡ true in
    let C : List SessionView → Type 0 = λ sessions. checks.Gap expected ≡ check_open (find_session c.args.ssid.0 sessions) c.args.offset (length c.args.piece.now) in (
      Refuse (Gap expected),
      of_checked c.args.ssid c.args.offset c.args.piece.now room (checks.Gap expected) (Refuse (Gap expected)) found
          (subst S c.sessions.ensures.sessions (sym c.if-not-is_open.ensures))
          c.if-length-gt-MAX_PIECE.false (subst C c.sessions-2.ensures.sessions c.in-Gap.ensures) (λ session. refl),
      follows_refusal (Gap expected) room (g.D.Store.view c.args.store.now),
    )

pub returns-in-New-clause-follows : goal.returns-in-New-clause-follows
returns-in-New-clause-follows g c =
    let room = c.args.room.now.room in
    let S : List SessionView → Type 0 = λ sessions. is_some (find_session c.args.ssid.0 sessions) ≡ true in
    let C : List SessionView → Type 0 = λ sessions. checks.New ≡ check_open (find_session c.args.ssid.0 sessions) c.args.offset (length c.args.piece.now) in
    let F : Plan → Type 0 = λ plan. Follows plan c.append_new.result room c.append_new.new.room.room (g.D.Store.view c.args.store.now) (g.D.Store.view c.append_new.new.store) in
    of_new c.args.ssid c.args.offset c.args.piece.now room F (find_session c.args.ssid.0 room.sessions) (subst S c.sessions.ensures.sessions (sym c.if-not-is_open.ensures))
    c.if-length-gt-MAX_PIECE.false (subst C c.sessions-2.ensures.sessions c.in-New.ensures) c.append_new.ensures.follows
