use Rattle.std.proofs.Common.{◌≡◌, ◌≤◌, ◌+◌, ◌-◌, ◌*◌, ℕ, suc, length, take, drop, ap, ◌∙◌, arith}
use Rattle.std.proofs.Math.Nat.{mul-suc, mul-le-mul_left}
use Rattle.std.proofs.lemmas.List.{length-take-le, length-drop}
use Rattle.chunk_mux.proofs.SealedBlocks.{sealed_step}
use Rattle.chunk_mux.proofs.sealing.make_data_blocks.Goals as goal

pub loop-i-preserved : goal.loop-i-preserved
loop-i-preserved c =
    let i : ℕ = c.loop-i.i in
    let size : ℕ = c.data_size-size.result in
    let k : ℕ = size * i + size - size * i in
    let same : k ≡ size = omega arith in
    let within : size * suc i ≤ size * length c.args.used.now = mul-le-mul_left size c.loop-i-test.true in
    let long : length (take k (drop (size * i) c.loop-i.blocks)) ≡ size =
    length-take-le k (drop (size * i) c.loop-i.blocks)
    (omega (
      arith,
      length-drop (size * i) c.loop-i.blocks,
      c.loop-i.auto.blocks,
      within,
      mul-suc size i,
      same,
      c.requires.count.0,
      ap (λ (n : ℕ). n * length c.args.used.now) c.data_size-size.ensures,
    )) ∙ same in
    sealed_step c.args.volid.0 c.args.first c.args.units i size (c.args.first + c.from.result * i) k c.args.used.now c.loop-i.blocks c.args.blocks.now
    c.seal_data.new.into c.data_size-size.ensures same (ap (λ (n : ℕ). c.args.first + n * i) c.from.ensures) c.requires.fits c.loop-i-test.true
    c.loop-i.invariant (c.seal_data.ensures.text c.args.units (long ∙ c.data_size-size.ensures))
