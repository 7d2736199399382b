use Rattle.std.proofs.Common.{◌≡◌, ◌≤◌, ◌||◌, ◌==◌, ℕ, ◌*◌, ◌/◌, sym, ap, subst, ◌∙◌, length, Bool, arith}
use Rattle.std.proofs.Math.Nat.{mul-le-mul_left}
use Rattle.std.proofs.lemmas.Bool.Decides.{nat_tests}
use Rattle.volume_block.specs.Chunks.{all_chunks}
use Rattle.chunk_mux.specs.Packing.{BufferView, payload_size, packed}
use Rattle.chunk_mux.specs.Pushes.{has_set}
use Rattle.chunk_mux.proofs.Members.{few_chunks, more_chunks}
use Rattle.chunk_mux.proofs.Joining.{packed_sets}
use Rattle.chunk_mux.proofs.Filling.{units_few}
use Rattle.chunk_mux.proofs.Packing.{pack_is, pack_none}
use Rattle.chunk_mux.proofs.buffer.MuxBuffer.push.Goals as goal

pub add-requires : goal.add-requires
add-requires c =
    let old = c.self.inside.blocks in
    let units = old.units in
    let new : BufferView = c.push-span.new.self in
    let is = c.push-span.ensures.blocks ∙ pack_is old c.args.ssid.0 c.args.copy.0 c.args.offset c.args.piece.now in
    let some : 1 ≤ length c.args.piece.now = grind (arith, nat_tests) in
    let has : 1 ≤ units = omega (arith, (units_few c.push-span.new.self.units c.push-span.ensures.units).0, ap (λ (all : BufferView). all.units) is) in
    let more = more_chunks (payload_size units) old.blocks c.args.ssid.0 c.args.copy.0 c.args.offset c.args.piece.now (omega (arith, has)) some in
    let few = few_chunks new.units new.blocks c.push-span.ensures.allowed in
    let same : length (all_chunks new.blocks)
    ≡ length (all_chunks (packed (payload_size units) old.blocks c.args.ssid.0 c.args.copy.0 c.args.offset c.args.piece.now)) =
    ap (λ (all : BufferView). length (all_chunks all.blocks)) is in
    let most : payload_size new.units / 25 * length new.blocks ≤ 64 * (payload_size units / 25) =
    enough (payload_size new.units / 25) (payload_size units / 25) (length new.blocks) (ap (λ (all : BufferView). payload_size all.units / 25) is)
    c.push-span.ensures.most in
    omega (arith, c.self.invariant.few, c.self.invariant.room, more, few, same, most)
  where
    enough : (now most blocks : ℕ) → now ≡ most → blocks ≤ 64 → now * blocks ≤ 64 * most
    enough now most blocks same low = omega (arith, mul-le-mul_left now low, ap (λ (n : ℕ). n * 64) same)

pub invariant_of-self : goal.invariant_of-self
invariant_of-self c =
    let old = c.self.inside.blocks in
    let units = old.units in
    let is = c.push-span.ensures.blocks ∙ pack_is old c.args.ssid.0 c.args.copy.0 c.args.offset c.args.piece.now in
    let some : 1 ≤ length c.args.piece.now = grind (arith, nat_tests) in
    let has : 1 ≤ units = omega (arith, (units_few c.push-span.new.self.units c.push-span.ensures.units).0, ap (λ (all : BufferView). all.units) is) in
    let more = more_chunks (payload_size units) old.blocks c.args.ssid.0 c.args.copy.0 c.args.offset c.args.piece.now (omega (arith, has)) some in
    let same : length (all_chunks c.push-span.new.self.blocks)
    ≡ length (all_chunks (packed (payload_size units) old.blocks c.args.ssid.0 c.args.copy.0 c.args.offset c.args.piece.now)) =
    ap (λ (all : BufferView). length (all_chunks all.blocks)) is in
    record {
      exact = λ ssid.
          c.add.ensures.has ssid
          ∙ ap (λ (b : Bool). b || (c.args.ssid.0 == ssid)) (c.self.invariant.exact ssid)
          ∙ sym (packed_sets (payload_size units) old.blocks ssid c.args.ssid.0 c.args.copy.0 c.args.offset c.args.piece.now (omega (arith, has)) some)
          ∙ ap (λ (all : BufferView). has_set ssid (all_chunks all.blocks)) (sym is);
      few = omega (arith, c.self.invariant.few, more, same, c.add.ensures.few);
      room = subst (λ (all : BufferView). 64 * (payload_size all.units / 25) ≤ c.add.new.self.most) (sym is)
          (omega (arith, c.self.invariant.room, c.add.ensures.most));
    }

pub invariant_of-self-else-not-is_empty : goal.invariant_of-self-else-not-is_empty
invariant_of-self-else-not-is_empty c =
    let none : length c.args.piece.now ≡ 0 = grind (arith, nat_tests) in
    let same : c.push-span.new.self ≡ c.self.inside.blocks =
    c.push-span.ensures.blocks ∙ pack_none c.self.inside.blocks c.args.ssid.0 c.args.copy.0 c.args.offset c.args.piece.now none in
    record {
      exact = λ ssid. c.self.invariant.exact ssid ∙ ap (λ (all : BufferView). has_set ssid (all_chunks all.blocks)) (sym same);
      few = subst (λ (all : BufferView). length c.self.inside.ssids.numbers ≤ length (all_chunks all.blocks)) (sym same) c.self.invariant.few;
      room = subst (λ (all : BufferView). 64 * (payload_size all.units / 25) ≤ c.self.inside.ssids.most) (sym same) c.self.invariant.room;
    }
