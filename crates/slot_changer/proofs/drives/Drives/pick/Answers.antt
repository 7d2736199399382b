use Rattle.std.proofs.Common.{◌≡◌, ◌<◌, length, arith, refl}
use Rattle.std.specs.Prelude.{Bool, true, false}
use Rattle.slot_changer.proofs.Picking.{first_met, first_passed, may_pick_at, may_pick_from}
use Rattle.slot_changer.proofs.drives.Drives.pick.Goals as goal
use Rattle.slot_changer.proofs.drives.Drives.pick.Goals.{then-may_pick, else-may_pick}

pub loop-place-preserved : goal.loop-place-preserved
loop-place-preserved c =
    let drives = c.self.inside.drives in
    let within : c.loop-place.place < length drives = omega arith in
    elim c.if-may_pick.branch [
      | then-may_pick w ↦ rw (w.picked-is, w.less_busy.ensures)
          (first_met drives _ _ _ _ _ _ c.loop-place.invariant (may_pick_at drives _ _ _ _ _ within (w.if-may_pick.ensures.0 refl)))
      | else-may_pick w ↦ rw w.picked-is (first_passed drives _ _ _ _ _ _ c.loop-place.invariant
          (λ may. absurd (let is : ◌≡◌ {A = Bool} false true = w.if-may_pick.ensures.1 (may_pick_from drives _ _ _ _ _ within may) in cc)))
    ]
