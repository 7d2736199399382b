use Rattle.std.proofs.Common.{ℕ, [], ◌∷◌, subst, sym}
use Rattle.room_disk.specs.Kept.{LieWithin}
use Rattle.room_disk.proofs.Replaying.{fits_at}
use Rattle.room_disk.proofs.rebuilding.do_all.Goals as goal

pub do_part-requires : goal.do_part-requires
do_part-requires c =
    let P : ℕ → Type 0 = λ room. LieWithin room c.args.file (c.event-item.result ∷ []) in
    subst P (sym c.loop-event.invariant.1)
    (fits_at c.args.bytes.now.room c.args.file c.args.events.now c.loop-event.event-index c.event-item.result c.requires c.loop-event-test.true c.event-item.is)
