use Rattle.std.proofs.Common.{◌≡◌, ◌∙◌, ◌++◌, ℕ, List, length, ap, arith, length-append}
use Rattle.volume_block.proofs.Appending.{inside, append_more, stays_behind}
use Rattle.volume_block.proofs.joining.append_chunks.Goals as goal

pub chunk_bytes-requires : goal.chunk_bytes-requires
chunk_bytes-requires c =
    let found = inside c.args.block.now c.loop-chunk.at c.in-Some.chunk c.loop-chunk.invariant.place c.in-Some.ensures.found in
    omega (arith, found.to, found.most)

pub loop-chunk-preserved : goal.loop-chunk-preserved
loop-chunk-preserved c =
    let found = inside c.args.block.now c.loop-chunk.at c.in-Some.chunk c.loop-chunk.invariant.place c.in-Some.ensures.found in
    let more : List ℕ = c.chunk_bytes.result.now in
    let grown : c.extend_from_slice.new.self.items ≡ c.loop-chunk.bytes.items ++ more = c.in_ok-extend_from_slice.ensures.items in
    record {
      place = c.in-Some.ensures.again;
      within = omega (arith, found.most);
      appended = λ volid number units chunks held. append_more c.args.block.now c.args.bytes.now.items c.loop-chunk.bytes.items
          c.extend_from_slice.new.self.items volid number units c.loop-chunk.at chunks c.in-Some.chunk held
          (c.loop-chunk.invariant.appended volid number units chunks held) c.in-Some.ensures.found
          (grown ∙ ap (λ (bytes : List ℕ). c.loop-chunk.bytes.items ++ bytes) c.chunk_bytes.ensures);
      long = omega (arith, c.loop-chunk.invariant.long, ap length grown, length-append c.loop-chunk.bytes.items more);
      stays = stays_behind c.args.bytes.now.items c.loop-chunk.bytes.items more c.extend_from_slice.new.self.items
          c.loop-chunk.invariant.stays c.loop-chunk.invariant.long grown;
    }

pub loop-chunk-smaller : goal.loop-chunk-smaller
loop-chunk-smaller c =
    let found = inside c.args.block.now c.loop-chunk.at c.in-Some.chunk c.loop-chunk.invariant.place c.in-Some.ensures.found in
    omega (arith, found.goes_on, found.most)
