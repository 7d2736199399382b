use Rattle.std.proofs.Common.{[], ◌∷◌, inl}
use Rattle.std.proofs.lemmas.Result.{err_from_is_err_and}
use Rattle.room_disk.specs.Crash.{Overlays, Torn}
use Rattle.room_disk.specs.Writing.{Then, TornThen}
use Rattle.room_disk.proofs.Writing.{writes_then, writes_weaker, writes_failed, writes_change}
use Rattle.volume_store.specs.Writes.{Relabels, IsOpening}
use Rattle.volume_store.proofs.Labelling.{relabels, being_labelled}
use Rattle.volume_store.proofs.label.write_label.Goals as goal

pub returns : goal.returns
returns g c =
    let label = c.args.label.now in
    writes_weaker (Then (Overlays 0 (0 ∷ [])) (Relabels label)) (TornThen (Torn 0 (0 ∷ [])) (Overlays 0 (0 ∷ [])) (IsOpening label))
    (writes_then (g.D.Store.view c.write_synced.new.store) (g.met.D.Store.is_disk c.args.store.now)
    c.in_ok-write_synced.ensures c.open_label.ensures)
    (relabels label) (being_labelled label)

pub returns-in_err-write_synced : goal.returns-in_err-write_synced
returns-in_err-write_synced g c =
    writes_failed (Overlays 0 (0 ∷ [])) (Torn 0 (0 ∷ [])) (err_from_is_err_and c.from_residual.result c.from_residual.ensures.1).1 (writes_change c.in_err-write_synced.ensures)
    (λ old new torn. being_labelled c.args.label.now old new (inl torn))
