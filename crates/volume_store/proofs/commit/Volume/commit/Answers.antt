use Rattle.std.proofs.Common.{◌≡◌, ◌∙◌, ◌*◌, ◌∷◌, ℕ, List, sym, ap}
use Rattle.std.proofs.lemmas.Result.{err_from_is_err_and}
use Rattle.room_disk.specs.Crash.{Overlays, GatedTorn}
use Rattle.room_disk.proofs.Writing.{writes_weaker, writes_failed, writes_change}
use Rattle.volume_store.specs.Writes.{opened}
use Rattle.volume_store.proofs.Regions.{opened_drop, sealed_some}
use Rattle.volume_store.proofs.Committing.{adds_file, may_add_file}
use Rattle.volume_store.proofs.commit.Volume.commit.Goals as goal

pub returns-clause-writes : goal.returns-clause-writes
returns-clause-writes g c =
    let volume = c.args.self.now in
    let region = c.args.region.now in
    let at = 4096 * volume.mark in
    let rest = c.split_at.result.1.now in
    let opens : opened region ≡ 0x46 ∷ rest =
    opened_drop region (sealed_some _ _ _ _ region c.requires.sealed.2) ∙ ap (λ (bytes : List ℕ). 0x46 ∷ bytes) (sym c.split_at.ensures.back) in
    writes_weaker (Overlays at (0x46 ∷ rest)) (GatedTorn at 0x46 rest) c.in_ok-write_gated.ensures
    (adds_file volume.label volume.mark region rest opens) (may_add_file volume.label volume.mark region rest opens)

pub returns-in_err-write_gated-clause-writes : goal.returns-in_err-write_gated-clause-writes
returns-in_err-write_gated-clause-writes g c =
    let volume = c.args.self.now in
    let region = c.args.region.now in
    let at = 4096 * volume.mark in
    let rest = c.split_at.result.1.now in
    let opens : opened region ≡ 0x46 ∷ rest =
    opened_drop region (sealed_some _ _ _ _ region c.requires.sealed.2) ∙ ap (λ (bytes : List ℕ). 0x46 ∷ bytes) (sym c.split_at.ensures.back) in
    writes_failed (Overlays at (0x46 ∷ rest)) (GatedTorn at 0x46 rest) (err_from_is_err_and c.from_residual.result c.from_residual.ensures.1).1 (writes_change c.in_err-write_gated.ensures)
    (may_add_file volume.label volume.mark region rest opens)
