use Rattle.std.proofs.Common.{IsTrue, ℕ, ◌+◌, sym, subst, arith, rules}
use Rattle.volume_block.specs.Chunks.{ChunkText, IsFirstChunk}
use Rattle.volume_block.proofs.Heads.{chunk_at, is_first, allowed_at_front}
use Rattle.volume_block.proofs.chunks.first_chunk_size.Goals as goal
use Rattle.volume_block.proofs.chunks.first_chunk_size.Goals.{then-count-text-via-then-count-text, then-count-text-via-else-count-text+then-not-is_allowed}

pub returns-then-count-text : goal.returns-then-count-text
returns-then-count-text c = λ chunk tail allowed spelled.
    let front = allowed_at_front c.args.text.now chunk tail c.requires allowed spelled in
    let head = c.head_in-head.ensures in
    elim c.then-count-text.branch [
      | then-count-text-via-then-count-text w ↦ omega (arith, front.within, head.count, w.if-count-text.true)
      | then-count-text-via-else-count-text+then-not-is_allowed w ↦
          let yes = w.is_allowed.ensures.1 (omega (arith, front.ssid, head.ssid), omega (arith, front.copy, head.copy), omega (arith, front.some, head.count), omega (arith, front.ends, head.count, head.offset)) in
          absurd (search rules)
    ]

pub returns : goal.returns
returns c =
    let text = c.args.text.now in
    let head = c.head_in-head.ensures in
    let Found : ℕ → Type 0 = λ (n : ℕ). (x : ChunkText) × IsFirstChunk text (24 + n) x in
    let yes : IsTrue c.is_allowed.result = search rules in
    let allowed = c.is_allowed.ensures.0 yes in
    subst Found (sym head.count) (
      chunk_at text,
      is_first text (λ i. omega (arith, c.type_inv.text i)) (omega (arith, head.count)) (omega (arith, head.ssid, allowed.0))
          (omega (arith, head.copy, allowed.1)) (omega (arith, head.count, allowed.2)) (omega (arith, head.count, head.offset, allowed.3)),
    )
