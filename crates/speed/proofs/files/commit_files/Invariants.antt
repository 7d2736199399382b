use Rattle.std.proofs.Common.{◌≡◌, ◌≤◌, ℕ}
use Rattle.volume_block.specs.Valid.{IsLabel}
use Rattle.speed.proofs.files.commit_files.Given as goal

-- the volume keeps its label and its cartridge, and no count of faults falls
abbrev pub invariant-loop-count : goal.invariant-loop-count
invariant-loop-count g l = IsLabel l.volume.label × (l.volume.cart ≡ l.volume.label.cart)
    × (l.volume.cart ≡ l.initial.volume.cart)
    × ((other : ℕ) → (g.D.Store.view l.initial.disk).faults other ≤ (g.D.Store.view l.disk).faults other)
