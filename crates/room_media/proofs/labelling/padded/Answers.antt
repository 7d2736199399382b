use Rattle.std.proofs.Common.{ℕ, List, ◌++◌, length, ap, ◌∙◌}
use Rattle.std.proofs.lemmas.List.{drop-replicate}
use Rattle.room_media.proofs.labelling.padded.Goals as goal

pub returns : goal.returns
returns c =
    ap (λ (front : List ℕ). front ++ c.split_at_mut-front.result.1.now) c.copy_from_slice.ensures.after
    ∙ ap (λ (rest : List ℕ). c.args.name.now ++ rest) (c.split_at_mut-front.ensures.back ∙ drop-replicate {X = ℕ} (length c.args.name.now) 64 0)
