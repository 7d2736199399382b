use Rattle.std.proofs.Common.{◌≡◌, ◌≤◌, length, min, ◌∙◌, ap, ℕ, arith}
use Rattle.chunk_mux.specs.Packing.{payload_size, chunk_size, room_in}
use Rattle.chunk_mux.proofs.Filling.{most_room}
use Rattle.chunk_mux.proofs.Packing.{pack_added, pack_begun, fits_added, fits_begun}
use Rattle.chunk_mux.proofs.blocks.DataBlocks.push_front.Goals as goal

pub returns-then-room-gt0-clause-room : goal.returns-then-room-gt0-clause-room
returns-then-room-gt0-clause-room c =
    let count : c.min-count.result ≡ min (room_in (payload_size c.args.self.now.units) c.args.self.now.blocks) (length c.args.piece.now) =
    c.min-count.ensures ∙ ap (λ (n : ℕ). min n (length c.args.piece.now)) c.room-room.ensures in
    rw c.add_chunk.ensures (fits_added c.args.self.now c.args.ssid.0 c.args.copy.0 c.args.offset c.min-count.result c.args.piece.now count c.requires.room)

pub returns-then-room-gt0-clause-blocks : goal.returns-then-room-gt0-clause-blocks
returns-then-room-gt0-clause-blocks c =
    let room : 1 ≤ room_in (payload_size c.args.self.now.units) c.args.self.now.blocks = omega (arith, c.room-room.ensures) in
    let count : c.min-count.result ≡ min (room_in (payload_size c.args.self.now.units) c.args.self.now.blocks) (length c.args.piece.now) =
    c.min-count.ensures ∙ ap (λ (n : ℕ). min n (length c.args.piece.now)) c.room-room.ensures in
    let units : 1 ≤ c.args.self.now.units = omega (arith, room, most_room (payload_size c.args.self.now.units) c.args.self.now.blocks) in
    rw c.add_chunk.ensures
    (pack_added c.args.self.now c.args.ssid.0 c.args.copy.0 c.args.offset c.min-count.result c.args.piece.now units room c.requires.some count)

pub returns-else-room-gt0-clause-room : goal.returns-else-room-gt0-clause-room
returns-else-room-gt0-clause-room c =
    let room : room_in (payload_size c.args.self.now.units) c.args.self.now.blocks ≡ 0 = omega (arith, c.room-room.ensures) in
    let count : c.min-count-else-room-gt0.result ≡ min (chunk_size (payload_size c.args.self.now.units)) (length c.args.piece.now) =
    c.min-count-else-room-gt0.ensures ∙ ap (λ (n : ℕ). min n (length c.args.piece.now)) c.chunk_size.ensures.size in
    rw c.begin_block.ensures
    (fits_begun c.args.self.now c.args.ssid.0 c.args.copy.0 c.args.offset c.min-count-else-room-gt0.result c.args.piece.now room count c.requires.room)

pub returns-else-room-gt0-clause-blocks : goal.returns-else-room-gt0-clause-blocks
returns-else-room-gt0-clause-blocks c =
    let room : room_in (payload_size c.args.self.now.units) c.args.self.now.blocks ≡ 0 = omega (arith, c.room-room.ensures) in
    let count : c.min-count-else-room-gt0.result ≡ min (chunk_size (payload_size c.args.self.now.units)) (length c.args.piece.now) =
    c.min-count-else-room-gt0.ensures ∙ ap (λ (n : ℕ). min n (length c.args.piece.now)) c.chunk_size.ensures.size in
    let units : 1 ≤ c.args.self.now.units = omega (arith, c.chunk_size.ensures) in
    rw c.begin_block.ensures
    (pack_begun c.args.self.now c.args.ssid.0 c.args.copy.0 c.args.offset c.min-count-else-room-gt0.result c.args.piece.now units room c.requires.some count)
