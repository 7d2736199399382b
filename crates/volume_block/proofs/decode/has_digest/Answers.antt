use Rattle.std.proofs.Common.{List, ℕ, eqb, take, drop, ap, ◌∙◌}
use Rattle.std.specs.Cmp.Lexicographic.{pointwise}
use Rattle.std.proofs.lemmas.Bool.Decides.{Decides-eqb}
use Rattle.std.proofs.lemmas.Slice.Eq.{slice_eq-Decides}
use Rattle.volume_block.proofs.decode.has_digest.Goals as goal

pub returns : goal.returns
returns c =
    let here = take 32 (drop 24 c.args.bytes.now) in
    slice_eq-Decides Decides-eqb here _ c.eq.result
    (c.eq.ensures ∙ ap (λ (digest : List ℕ). pointwise eqb here digest) (c.as_slice.ensures ∙ c.digest_of-digest.ensures))
