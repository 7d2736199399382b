use Rattle.std.proofs.Common.{◌≡◌, ℕ, ◌≤◌, ◌<◌}
use Rattle.std.specs.Prelude.{IsSomeAnd}
use Rattle.slot_changer.specs.Drives.{in_drive}
use Rattle.room_state.proofs.state.drive_with.Given as goal

abbrev pub invariant-loop-drive : goal.invariant-loop-drive
invariant-loop-drive l = (before : ℕ) → 1 ≤ before → before < l.drive → ¬ IsSomeAnd (in_drive l.drives before) (λ one. one.volume.cart.0 ≡ l.cart.0)
