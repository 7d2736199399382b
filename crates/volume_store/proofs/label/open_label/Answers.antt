use Rattle.std.proofs.Common.{◌≡◌, ◌∙◌, ◌∷◌, ℕ, List, sym, subst}
use Rattle.room_disk.specs.Crash.{Overlays, GatedTorn}
use Rattle.room_disk.proofs.Writing.{writes_weaker}
use Rattle.volume_block.proofs.Lengths.{length-label_text}
use Rattle.volume_store.proofs.Labelling.{opens_labelled, opening_torn, labelled_empty}
use Rattle.volume_store.specs.Committed.{Committed}
use Rattle.volume_store.specs.Writes.{labelled, without_files}
use Rattle.volume_store.proofs.label.open_label.Goals as goal

pub returns : goal.returns
returns g c =
    let label = c.args.label.now in
    let rest = c.split_at.result.1.now in
    let Whole : List ℕ → Type 0 = λ bytes. Committed bytes (without_files label) in
    writes_weaker (Overlays 0 (0x4C ∷ rest)) (GatedTorn 0 0x4C rest) c.write_gated.ensures
    (λ old new written. (let is : new ≡ labelled label old = written ∙ opens_labelled label _ rest old
    (length-label_text label c.requires) c.fill_label_blocks.ensures c.split_at.ensures.back in
    record { bytes = is; empty = subst Whole (sym is) (labelled_empty label old c.requires) }))
    (λ old new torn closed. opening_torn label old new _ rest c.requires closed c.fill_label_blocks.ensures c.split_at.ensures.back torn)
