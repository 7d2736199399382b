use Rattle.std.proofs.Common.{◌≡◌, ◌+◌, ◌≤◌, ◌^◌, ◌-◌, ℕ}
use Rattle.room_base.specs.Outside.{Told}
use Rattle.room_disk.specs.Disk.{Quiet}
use Rattle.volume_store.specs.Reads.{HasWalked, HasRange}
use Rattle.volume_store.proofs.marks.walk_for.Given as goal

-- the marks before the walk's end were read, and no read has failed
abbrev pub invariant-loop-walk : goal.invariant-loop-walk
invariant-loop-walk g l =
    ((other : ℕ) → (g.D.Store.view l.initial.store).faults other ≤ (g.D.Store.view l.store).faults other)
    × ((g.D.Store.view l.store).tells ≡ (g.D.Store.view l.initial.store).tells)
    × Told (g.D.Store.view l.initial.store).tells (Quiet (g.D.Store.view l.initial.store) (g.D.Store.view l.store))
    × HasRange (2 ^ 52 + 1026) l.units l.walk
    × Told (g.D.Store.view l.initial.store).tells
    (HasWalked ((g.D.Store.view l.initial.store).reads l.file) l.volid.0 l.units l.wanted l.walk)

abbrev pub decreases-loop-walk : goal.decreases-loop-walk
decreases-loop-walk g l = l.blocks - l.walk.end
