use Rattle.std.proofs.Common.{◌≡◌, ◌+◌, ◌*◌, ℕ, List, length, take, drop, refl, sym, ap, ◌∙◌, arith, subst}
use Rattle.std.proofs.lemmas.List.{length-take, with_items_is}
use Rattle.std.specs.Vec.{with_items}
use Rattle.volume_block.specs.Layout.{data_size}
use Rattle.volume_block.specs.Region.{IsSealed}
use Rattle.chunk_mux.specs.Text.{Hold}
use Rattle.chunk_mux.specs.Blocks.{used_in, data_in}
use Rattle.chunk_mux.proofs.Filling.{as_many, stands, same_units, seen_as, units_few}
use Rattle.chunk_mux.proofs.Holding.{held_small}
use Rattle.chunk_mux.proofs.blocks.DataBlocks.seal.Goals as goal

pub make_region-requires-clause-count : goal.make_region-requires-clause-count
make_region-requires-clause-count c =
    let many : length c.args.self.now.blocks ≡ c.self.inside.begun = as_many c.self.inside c.args.self.now c.self.view_is c.self.invariant in
    let long : length (take c.self.inside.begun c.self.inside.used) ≡ c.self.inside.begun =
    omega (arith, length-take c.self.inside.begun c.self.inside.used, c.self.invariant.places, c.self.invariant.counted) in
    (omega arith, omega arith)

pub make_region-requires-clause-fits : goal.make_region-requires-clause-fits
make_region-requires-clause-fits c =
    held_small c.self.inside.units c.args.self.now.blocks (used_in c.self.inside) (data_in c.self.inside)
    (stands c.self.inside c.args.self.now c.self.view_is c.self.invariant)

pub returns : goal.returns
returns c =
    let value = c.args.self.now in
    let inside = c.self.inside in
    let used : List ℕ = used_in inside in
    let new : List ℕ = c.make_region.new.bytes in
    let own : inside.units ≡ value.units = same_units inside value c.self.view_is in
    let long : length used ≡ inside.begun = omega (arith, length-take inside.begun inside.used, c.self.invariant.places, c.self.invariant.counted) in
    let held : Hold inside.units value.blocks used (drop 4096 c.deref_mut.result.now) =
    subst (λ (bytes : List ℕ). Hold inside.units value.blocks used (drop 4096 bytes)) (sym c.deref_mut.ensures.value)
    (stands inside value c.self.view_is c.self.invariant) in
    let sealed = c.make_region.ensures value.blocks held in
    let whole : (with_items inside.bytes new).items ≡ new = with_items_is inside.bytes new (omega arith) in (
      (
        refl,
        (λ _. tt),
        seen_as (record { units = inside.units; bytes = with_items inside.bytes new; used = inside.used; begun = inside.begun }) value
            (units_few inside.units c.self.invariant.sized).1 own
            (subst (λ (bytes : List ℕ). Hold inside.units value.blocks used (drop 4096 bytes)) (sym whole) sealed.holds),
      ),
      record {
        stays = tt;
        sealed = subst (λ (units : ℕ). IsSealed c.args.volid.0 c.args.mark units value.blocks
            (take (8192 + c.data_size.result * inside.begun) c.deref.result.now)) own
            (subst (IsSealed c.args.volid.0 c.args.mark inside.units value.blocks) (
            ap (λ (n : ℕ). take (8192 + data_size inside.units * n) new) long
            ∙ ap (λ (n : ℕ). take (8192 + n * inside.begun) new) (sym c.data_size.ensures)
            ∙ ap (take (8192 + c.data_size.result * inside.begun)) (sym whole ∙ sym c.deref.ensures.value)
            ) sealed.text);
      },
    )
