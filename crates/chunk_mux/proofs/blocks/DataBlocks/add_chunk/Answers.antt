use Rattle.std.proofs.Common.{◌+◌, ◌-◌, ◌*◌, ◌++◌, ℕ, length, get_or, set, refl, ap, arith}
use Rattle.std.specs.Vec.{with_items}
use Rattle.volume_block.specs.Chunks.{chunk_head}
use Rattle.volume_block.specs.Layout.{data_size}
use Rattle.chunk_mux.proofs.Filling.{last_place, own_room, chunk_added, written_in}
use Rattle.chunk_mux.proofs.blocks.DataBlocks.add_chunk.Goals as goal

pub overflow_sub-last : goal.overflow_sub-last
overflow_sub-last c =
    (last_place c.self.inside c.args.self.now (length c.args.piece.now) (data_size c.self.inside.units) c.self.view_is c.self.invariant
    c.requires.some c.requires.room refl).some

pub overflow_add-at-3 : goal.overflow_add-at-3
overflow_add-at-3 c =
    let place = last_place c.self.inside c.args.self.now (length c.args.piece.now) c.data_size.result c.self.view_is c.self.invariant
    c.requires.some c.requires.room c.data_size.ensures in
    omega (arith, place.ends, place.small)

pub put_chunk-requires : goal.put_chunk-requires
put_chunk-requires c =
    let place = last_place c.self.inside c.args.self.now (length c.args.piece.now) c.data_size.result c.self.view_is c.self.invariant
    c.requires.some c.requires.room c.data_size.ensures in
    record {
      piece = omega (arith, place.room, place.units);
      room = omega (arith, place.ends, ap length c.deref_mut.ensures.value);
    }

pub overflow_cast-self : goal.overflow_cast-self
overflow_cast-self c =
    let place = last_place c.self.inside c.args.self.now (length c.args.piece.now) c.data_size.result c.self.view_is c.self.invariant
    c.requires.some c.requires.room c.data_size.ensures in
    omega (arith, place.room, place.units)

pub invariant_of-self : goal.invariant_of-self
invariant_of-self c =
    let place = last_place c.self.inside c.args.self.now (length c.args.piece.now) c.data_size.result c.self.view_is c.self.invariant
    c.requires.some c.requires.room c.data_size.ensures in
    let some = place.some in
    (chunk_added c.self.inside _ c.args.self.now c.args.ssid.0 c.args.copy.0 c.args.offset (c.self.inside.begun - 1) c.args.piece.now
    c.self.view_is c.self.invariant (omega (arith, some)) c.requires.ssid (omega arith) c.requires.copy (omega arith) c.requires.ends c.requires.some
    (own_room c.self.inside c.args.self.now (length c.args.piece.now) c.self.view_is c.requires.room)
    (written_in c.self.inside.bytes _ _ (chunk_head c.args.ssid.0 c.args.copy.0 c.args.offset (length c.args.piece.now) ++ c.args.piece.now)
    c.deref_mut.result.now c.put_chunk.new.bytes (omega arith) c.put_chunk.ensures c.deref_mut.ensures.value
    (ap (λ (n : ℕ). 4096 + n * (c.self.inside.begun - 1) + 56 + get_or c.self.inside.used (c.self.inside.begun - 1) 0) c.data_size.ensures))
    refl refl refl).ok

pub returns : goal.returns
returns c =
    let place = last_place c.self.inside c.args.self.now (length c.args.piece.now) c.data_size.result c.self.view_is c.self.invariant
    c.requires.some c.requires.room c.data_size.ensures in
    let some = place.some in
    (chunk_added c.self.inside
    (record {
      units = c.self.inside.units;
      bytes = with_items c.self.inside.bytes c.put_chunk.new.bytes;
      used = set c.self.inside.used (c.self.inside.begun - 1) (get_or c.self.inside.used (c.self.inside.begun - 1) 0 + 24 + length c.args.piece.now);
      begun = c.self.inside.begun;
    }) c.args.self.now c.args.ssid.0 c.args.copy.0 c.args.offset (c.self.inside.begun - 1) c.args.piece.now
    c.self.view_is c.self.invariant (omega (arith, some)) c.requires.ssid (omega arith) c.requires.copy (omega arith) c.requires.ends c.requires.some
    (own_room c.self.inside c.args.self.now (length c.args.piece.now) c.self.view_is c.requires.room)
    (written_in c.self.inside.bytes _ _ (chunk_head c.args.ssid.0 c.args.copy.0 c.args.offset (length c.args.piece.now) ++ c.args.piece.now)
    c.deref_mut.result.now c.put_chunk.new.bytes (omega arith) c.put_chunk.ensures c.deref_mut.ensures.value
    (ap (λ (n : ℕ). 4096 + n * (c.self.inside.begun - 1) + 56 + get_or c.self.inside.used (c.self.inside.begun - 1) 0) c.data_size.ensures))
    refl refl refl).view
