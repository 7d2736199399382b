use Rattle.std.proofs.Common.{refl, sym, ap, ◌∙◌}
use Rattle.save_session.specs.Sessions.{SessionsView}
use Rattle.room_effects.proofs.Closing.{close_each}
use Rattle.room_state.proofs.Losing.{closed_all, closed_before, closed_more}
use Rattle.room_state.proofs.Placing.{not_found}
use Rattle.room_state.proofs.committing.close_each.Goals as goal
use Rattle.room_state.proofs.committing.close_each.Goals.{then-is_open, else-is_open}

pub loop-ssid-init : goal.loop-ssid-init
unfolding close_each
loop-ssid-init c = refl

pub loop-ssid-preserved : goal.loop-ssid-preserved
loop-ssid-preserved c = elim c.if-is_open.branch [
  | then-is_open w ↦ ap (λ (view : SessionsView). view.sessions) w.sessions-is
      ∙ closed_more _ _ _ _ _ _ c.loop-ssid-test.true c.loop-ssid.invariant w.close.ensures.sessions
  | else-is_open w ↦ ap (λ (view : SessionsView). view.sessions) w.sessions-is
      ∙ closed_before _ _ _ _ _ c.loop-ssid-test.true c.loop-ssid.invariant (not_found _ (sym c.is_open.ensures ∙ w.if-is_open.false))
]

pub returns : goal.returns
returns c held asking is = closed_all held asking _ _ _ _ c.loop-ssid-test.false c.requires c.loop-ssid.invariant is
