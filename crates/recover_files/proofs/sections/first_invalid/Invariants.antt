use Rattle.std.proofs.Common.{◌≡◌, ◌-◌, ◌≤◌, ◌<◌, ℕ}
use Rattle.room_base.specs.Outside.{Told}
use Rattle.room_disk.specs.Disk.{Quiet}
use Rattle.volume_store.specs.Writes.{cart_file}
use Rattle.recover_files.specs.Sections.{IsInvalid, number_at}
use Rattle.recover_files.proofs.sections.first_invalid.Given as goal

-- the blocks before this one are valid
abbrev pub invariant-each : goal.invariant-each
invariant-each g l = record {
  later : (other : ℕ) → (g.D.Store.view l.initial.store).faults other ≤ (g.D.Store.view l.store).faults other;
  tells : (g.D.Store.view l.store).tells ≡ (g.D.Store.view l.initial.store).tells;
  quiet : Told (g.D.Store.view l.initial.store).tells (Quiet (g.D.Store.view l.initial.store) (g.D.Store.view l.store));
  within : l.index ≤ l.last;
  valid : Told (g.D.Store.view l.initial.store).tells ((j : ℕ) → j < l.index
      → ¬ IsInvalid ((g.D.Store.view l.initial.store).reads (cart_file l.spot.cart.0)) l.spot.section.volid.0 (number_at l.spot.section l.units j));
}

abbrev pub decreases-each : goal.decreases-each
decreases-each g l = l.last - l.index
