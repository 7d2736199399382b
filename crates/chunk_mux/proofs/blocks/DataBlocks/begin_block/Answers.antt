use Rattle.std.proofs.Common.{◌+◌, ◌*◌, ◌++◌, ℕ, length, set, refl, ap, arith}
use Rattle.std.specs.Vec.{with_items}
use Rattle.volume_block.specs.Chunks.{chunk_head}
use Rattle.chunk_mux.proofs.Filling.{next_place, chunk_begun, written_in}
use Rattle.chunk_mux.proofs.blocks.DataBlocks.begin_block.Goals as goal

pub put_chunk-requires : goal.put_chunk-requires
put_chunk-requires c =
    let place = next_place c.self.inside c.args.self.now (length c.args.piece.now) c.data_size.result c.self.view_is c.self.invariant
    c.requires.some c.requires.room c.requires.more c.data_size.ensures in
    record {
      piece = omega (arith, place.room, place.units);
      room = omega (arith, place.ends, ap length c.deref_mut.ensures.value);
    }

pub bounds-self-inside-next : goal.bounds-self-inside-next
bounds-self-inside-next c =
    (next_place c.self.inside c.args.self.now (length c.args.piece.now) c.data_size.result c.self.view_is c.self.invariant
    c.requires.some c.requires.room c.requires.more c.data_size.ensures).low

pub invariant_of-self : goal.invariant_of-self
invariant_of-self c =
    let place = next_place c.self.inside c.args.self.now (length c.args.piece.now) c.data_size.result c.self.view_is c.self.invariant
    c.requires.some c.requires.room c.requires.more c.data_size.ensures in
    (chunk_begun c.self.inside _ c.args.self.now c.args.ssid.0 c.args.copy.0 c.args.offset c.args.piece.now c.self.view_is c.self.invariant place.low
    c.requires.ssid (omega arith) c.requires.copy (omega arith) c.requires.ends c.requires.some place.room
    (written_in c.self.inside.bytes _ _ (chunk_head c.args.ssid.0 c.args.copy.0 c.args.offset (length c.args.piece.now) ++ c.args.piece.now)
    c.deref_mut.result.now c.put_chunk.new.bytes (omega arith) c.put_chunk.ensures c.deref_mut.ensures.value
    (ap (λ (n : ℕ). 4096 + n * c.self.inside.begun + 56) c.data_size.ensures))
    refl refl refl).ok

pub returns : goal.returns
returns c =
    let place = next_place c.self.inside c.args.self.now (length c.args.piece.now) c.data_size.result c.self.view_is c.self.invariant
    c.requires.some c.requires.room c.requires.more c.data_size.ensures in
    (chunk_begun c.self.inside
    (record {
      units = c.self.inside.units;
      bytes = with_items c.self.inside.bytes c.put_chunk.new.bytes;
      used = set c.self.inside.used c.self.inside.begun (24 + length c.args.piece.now);
      begun = c.self.inside.begun + 1;
    }) c.args.self.now c.args.ssid.0 c.args.copy.0 c.args.offset c.args.piece.now c.self.view_is c.self.invariant place.low
    c.requires.ssid (omega arith) c.requires.copy (omega arith) c.requires.ends c.requires.some place.room
    (written_in c.self.inside.bytes _ _ (chunk_head c.args.ssid.0 c.args.copy.0 c.args.offset (length c.args.piece.now) ++ c.args.piece.now)
    c.deref_mut.result.now c.put_chunk.new.bytes (omega arith) c.put_chunk.ensures c.deref_mut.ensures.value
    (ap (λ (n : ℕ). 4096 + n * c.self.inside.begun + 56) c.data_size.ensures))
    refl refl refl).view
