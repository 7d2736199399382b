use Rattle.std.proofs.Common.{inl}
use Rattle.room_effects.proofs.Checking.{follows_checks}
use Rattle.save_begin.specs.Aborting.{abort_checks, giving_up}
use Rattle.save_begin.proofs.aborting.abort.Goals as goal

pub returns-in-Err-clause-follows : goal.returns-in-Err-clause-follows
returns-in-Err-clause-follows g c =
    let room = c.args.room.now.room in
    follows_checks {X = Unit {0}} (abort_checks c.args.ssid room) (λ done. giving_up c.args.m c.args.ssid room) c.in-Err.refusal room (g.D.Store.view c.args.store.now)
    (inl c.in-Err.ensures.checks)
