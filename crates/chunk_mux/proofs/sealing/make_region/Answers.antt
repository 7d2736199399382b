use Rattle.std.proofs.Common.{◌≡◌, ◌≤◌, ◌+◌, ◌-◌, ◌*◌, ◌++◌, ℕ, List, length, take, drop, replicate, ap, ◌∙◌, arith}
use Rattle.std.proofs.Math.Nat.{mul-le-mul_left}
use Rattle.std.proofs.lemmas.List.{length-take-le, length-drop}
use Rattle.volume_block.specs.Layout.{data_size}
use Rattle.volume_block.specs.Region.{closed_block}
use Rattle.chunk_mux.specs.Text.{written}
use Rattle.chunk_mux.specs.Sealing.{seal_first}
use Rattle.chunk_mux.proofs.Filling.{units_few}
use Rattle.chunk_mux.proofs.SealedBlocks.{seals_region, put_written}
use Rattle.chunk_mux.proofs.sealing.make_region.Goals as goal

pub returns : goal.returns
returns c = λ chunks held.
    let s = c.split_at_mut-front.ensures in
    let used : List ℕ = c.args.used.now in
    let units : ℕ = c.args.units in
    let at : ℕ = c.data_size.result * length used in
    let k : ℕ = at + 4096 - at in
    let same : k ≡ 4096 = omega arith in
    let sealed : List ℕ = c.make_data_blocks.new.blocks in
    let few = units_few units c.requires.units in
    let within : at ≤ c.data_size.result * 64 = mul-le-mul_left c.data_size.result c.requires.count.1 in
    let behind : length (take k (drop at sealed)) ≡ k =
    length-take-le k (drop at sealed)
    (omega (
      arith,
      length-drop at sealed,
      c.make_data_blocks.auto.blocks,
      s.back_len,
      c.requires.whole,
      within,
      same,
      ap (λ (n : ℕ). n * 64) c.data_size.ensures,
    )) in
    let zeros : c.fill.new.self ≡ closed_block =
    c.fill.ensures.after (λ y e. e) ∙ ap (λ (n : ℕ). replicate n 0) (behind ∙ same) in
    seals_region c.args.volid.0 c.args.mark units chunks used c.write_mark.new.block (drop 4096 c.args.bytes.now) _ held c.requires.units few.1
    c.requires.volid (omega arith) c.requires.mark.0 c.requires.mark.1 c.requires.count c.write_mark.ensures
    (ap (λ (d : List ℕ). c.write_mark.new.block ++ d)
    (put_written at k sealed c.fill.new.self (c.fill.ensures.len ∙ behind)
    ∙ ap (λ (n : ℕ). written (n * length used) c.fill.new.self sealed) c.data_size.ensures
    ∙ ap (λ (t : List ℕ). written (data_size units * length used) t sealed) zeros
    ∙ ap (written (data_size units * length used) closed_block)
    (c.make_data_blocks.ensures ∙ ap (seal_first c.args.volid.0 (c.args.mark + 1) units used) s.back)))
