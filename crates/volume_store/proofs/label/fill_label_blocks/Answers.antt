use Rattle.std.proofs.Common.{◌≡◌, ◌∙◌, ◌++◌, ℕ, ap, length, replicate, arith}
use Rattle.volume_block.specs.Valid.{label_text}
use Rattle.volume_store.proofs.label.fill_label_blocks.Goals as goal

pub returns : goal.returns
returns c =
    let long : length c.split_at_mut-first.result.1.now ≡ 4096 = omega (arith, c.requires.whole, c.split_at_mut-first.ensures.back_len) in
    ap (λ first. first ++ c.fill.new.self) c.encode_label.ensures.text
    ∙ ap (λ second. label_text c.args.label.now ++ second) (c.fill.ensures.after (λ y e. e) ∙ ap (λ count. replicate {A = ℕ} count 0) long)
