use Rattle.std.proofs.Common.{◌≡◌, ◌-◌, ◌*◌, ◌≤◌, ℕ, length, ap, ◌∙◌, sym, arith}
use Rattle.std.proofs.lemmas.Bool.Decides.{nat_tests}
use Rattle.std.proofs.lemmas.Nat.{mul-le}
use Rattle.chunk_mux.specs.Packing.{payload_size, chunk_size}
use Rattle.chunk_mux.proofs.Filling.{as_many, most_room, units_few, same_units}
use Rattle.chunk_mux.proofs.blocks.DataBlocks.fits.Goals as goal

pub overflow_add-result : goal.overflow_add-result
overflow_add-result c =
    let few = units_few c.self.inside.units c.self.invariant.sized in
    let own = same_units c.self.inside c.args.self.now c.self.view_is in
    let least : c.chunk_size.result ≤ 65536 = omega (arith, c.chunk_size.ensures.size, few, own) in
    let most : c.chunk_size.result * (64 - c.self.inside.begun) ≤ 65536 * 64 =
    mul-le c.chunk_size.result (64 - c.self.inside.begun) 65536 64 least (omega arith) in
    omega (arith, c.room.ensures, most_room (payload_size c.args.self.now.units) c.args.self.now.blocks, few, own, most)

pub returns : goal.returns
returns c =
    let many : length c.args.self.now.blocks ≡ c.self.inside.begun = as_many c.self.inside c.args.self.now c.self.view_is c.self.invariant in
    let same : c.chunk_size.result * (64 - c.self.inside.begun)
    ≡ chunk_size (payload_size c.args.self.now.units) * (64 - length c.args.self.now.blocks) =
    ap (λ (n : ℕ). n * (64 - c.self.inside.begun)) c.chunk_size.ensures.size
    ∙ ap (λ (n : ℕ). chunk_size (payload_size c.args.self.now.units) * (64 - n)) (sym many) in
    grind (arith, nat_tests, c.room.ensures, same)
