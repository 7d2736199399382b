use Rattle.std.proofs.Common.{◌≡◌, ◌+◌, ◌≤◌, ℕ, length, vec_len}
use Rattle.room_base.specs.Outside.{Told}
use Rattle.room_disk.specs.Disk.{Quiet}
use Rattle.volume_store.specs.Committed.{CommittedFile, AreDataPlaces}
use Rattle.volume_store.specs.Writes.{cart_file}
use Rattle.room_run.proofs.GetRuns.{HasRead}
use Rattle.room_run.proofs.get.read_places.Given as goal

-- the bytes of the blocks before the index were read, and no read has failed
abbrev pub invariant-loop-index : goal.invariant-loop-index
invariant-loop-index g l =
    ((other : ℕ) → (g.D.Store.view l.initial.disk).faults other ≤ (g.D.Store.view l.disk).faults other)
    × ((g.D.Store.view l.disk).tells ≡ (g.D.Store.view l.initial.disk).tells)
    × Told (g.D.Store.view l.initial.disk).tells (Quiet (g.D.Store.view l.initial.disk) (g.D.Store.view l.disk))
    × Told (g.D.Store.view l.initial.disk).tells ((file : CommittedFile) → l.place.mark ≡ file.mark → l.place.count ≡ length file.places
    → AreDataPlaces ((g.D.Store.view l.initial.disk).reads (cart_file l.cart.0)) l.label.volid.0 l.label.units (file.mark + 1) file.places
    → HasRead file.places l.bytes.items l.index)
    × (vec_len l.block ≡ 65536)
