use Rattle.std.proofs.Common.{◌++◌, List, ℕ, take, ap, ◌∙◌}
use Rattle.std.proofs.lemmas.List.{take_rest}
use Rattle.sha2.specs.Sha256.{sha256}
use Rattle.volume_block.proofs.sealing.digest_of.Goals as goal

pub returns : goal.returns
returns c =
    let block = c.args.block.now in
    c.finalize.ensures _ (c.update-2.ensures _ (c.update.ensures _ c.new-hasher.ensures))
    ∙ ap (λ (t : List ℕ). sha256 (take 24 block ++ t)) (take_rest block 56)
