use Rattle.std.proofs.Common.{◌≡◌, ◌+◌, ◌++◌, [], length, take, get_or, ap, arith}
use Rattle.std.proofs.lemmas.List.{length-append}
use Rattle.std.proofs.lemmas.Result.{err_from_is_err_and}
use Rattle.room_disk.specs.Crash.{Overlays, KeepsFront, all_bytes}
use Rattle.room_disk.proofs.Fronts.{all_bytes-more, one_more_part}
use Rattle.room_disk.proofs.Writing.{changes_failed}
use Rattle.room_disk.proofs.gate.write_parts.Goals as goal

pub loop-part-preserved : goal.loop-part-preserved
loop-part-preserved g c =
    let parts = c.args.parts.now in
    let index = c.loop-part.part-index in
    let front = all_bytes (take index parts) in
    let part = (get_or parts index (record { ref_ptr = (0, 0); now = [] })).now in
    let new = g.D.Store.view c.write_unsynced.new.store in
    let more : all_bytes (take (index + 1) parts) ≡ front ++ part = all_bytes-more parts index _ c.loop-part-test.true in (
      omega (arith, c.loop-part.invariant.0, ap length more, length-append front part),
      rw more (one_more_part c.args.file c.args.at c.loop-part.next front part (g.D.Store.view c.args.store.now)
          (g.D.Store.view c.loop-part.store) new c.loop-part.invariant.1 c.loop-part.invariant.0 c.in_ok-write_unsynced.ensures.changes),
    )

pub returns-in_err-write_unsynced : goal.returns-in_err-write_unsynced
returns-in_err-write_unsynced g c =
    let parts = c.args.parts.now in
    let index = c.loop-part.part-index in
    let front = all_bytes (take index parts) in
    let part = (get_or parts index (record { ref_ptr = (0, 0); now = [] })).now in
    changes_failed (Overlays c.args.at (front ++ part)) (KeepsFront c.args.at) (err_from_is_err_and c.from_residual.result c.from_residual.ensures.1).1
    (one_more_part c.args.file c.args.at c.loop-part.next front part (g.D.Store.view c.args.store.now)
    (g.D.Store.view c.loop-part.store) (g.D.Store.view c.write_unsynced.new.store) c.loop-part.invariant.1 c.loop-part.invariant.0
    c.in_err-write_unsynced.ensures.changes)
    (λ old new torn. torn)
