use Rattle.std.proofs.Common.{◌-◌, ◌+◌, ◌≡◌, sym, ap, ◌∙◌, ℕ, arith}
use Rattle.chunk_mux.specs.Packing.{payload_size, room_in}
use Rattle.chunk_mux.proofs.Filling.{as_many, no_room, room_is, same_units}
use Rattle.chunk_mux.proofs.blocks.DataBlocks.room.Goals as goal

pub returns-then-self-eq0 : goal.returns-then-self-eq0
returns-then-self-eq0 c =
    sym (no_room (payload_size c.args.self.now.units) c.args.self.now.blocks
    (as_many c.self.inside c.args.self.now c.self.view_is c.self.invariant ∙ c.if-self-eq0.true))

pub returns : goal.returns
returns c =
    let last : c.self.inside.begun - 1 + 1 ≡ c.self.inside.begun = omega arith in
    let room = room_is c.self.inside c.args.self.now (c.self.inside.begun - 1) c.self.view_is c.self.invariant last in
    let units = same_units c.self.inside c.args.self.now c.self.view_is in
    omega (arith, c.saturating_sub.ensures, c.chunk_size.ensures.size, units, room)
    ∙ ap (λ (n : ℕ). room_in (payload_size n) c.args.self.now.blocks) units
