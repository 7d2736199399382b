use Rattle.std.proofs.Common.{[], ◌∷◌, inl, inr}
use Rattle.std.proofs.lemmas.Result.{err_from_is_err_and}
use Rattle.room_disk.specs.Crash.{Overlays, ReplacesEnd, KeepsFront, Torn, all_bytes}
use Rattle.room_disk.specs.Writing.{Then, TornThen}
use Rattle.room_disk.proofs.Writing.{writes_then, writes_weaker, writes_failed, writes_change}
use Rattle.room_disk.proofs.Anew.{is_anew, anew_torn}
use Rattle.room_disk.proofs.gate.write_anew.Goals as goal

pub returns : goal.returns
returns g c =
    let letter = c.args.letter in
    let bytes = all_bytes c.args.parts.now in
    writes_weaker (Then (Overlays 0 (0 ∷ [])) (Then (ReplacesEnd 1 bytes) (Overlays 0 (letter ∷ []))))
    (TornThen (Torn 0 (0 ∷ [])) (Overlays 0 (0 ∷ [])) (TornThen (KeepsFront 1) (ReplacesEnd 1 bytes) (Torn 0 (letter ∷ []))))
    (writes_then (g.D.Store.view c.write_synced.new.store) (g.met.D.Store.is_disk c.args.store.now) c.in_ok-write_synced.ensures
    (writes_then (g.D.Store.view c.replace_end.new.store) (g.met.D.Store.is_disk c.write_synced.new.store)
    c.in_ok-replace_end.ensures c.open_gate.ensures))
    (is_anew letter bytes) (λ old new torn. anew_torn letter bytes old new c.requires torn)

pub returns-in_err-replace_end : goal.returns-in_err-replace_end
returns-in_err-replace_end g c =
    let letter = c.args.letter in
    let bytes = all_bytes c.args.parts.now in
    writes_failed (Then (Overlays 0 (0 ∷ [])) (ReplacesEnd 1 bytes)) (TornThen (Torn 0 (0 ∷ [])) (Overlays 0 (0 ∷ [])) (KeepsFront 1))
    (err_from_is_err_and c.from_residual-in_err-replace_end.result c.from_residual-in_err-replace_end.ensures.1).1
    (writes_change (writes_then (g.D.Store.view c.write_synced.new.store) (g.met.D.Store.is_disk c.args.store.now)
    c.in_ok-write_synced.ensures c.in_err-replace_end.ensures))
    (λ old new torn. elim torn [
      | inl first ↦ anew_torn letter bytes old new c.requires (inl first)
      | inr both ↦ anew_torn letter bytes old new c.requires (inr (both.0, both.1, inl both.2))
    ])

pub returns-in_err-write_synced : goal.returns-in_err-write_synced
returns-in_err-write_synced g c =
    writes_failed (Overlays 0 (0 ∷ [])) (Torn 0 (0 ∷ []))
    (err_from_is_err_and c.from_residual.result c.from_residual.ensures.1).1
    (writes_change c.in_err-write_synced.ensures)
    (λ old new torn. anew_torn c.args.letter (all_bytes c.args.parts.now) old new c.requires (inl torn))
