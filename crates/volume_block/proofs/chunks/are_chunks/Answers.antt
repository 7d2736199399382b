use Rattle.std.proofs.Common.{◌≡◌, ◌≢◌, ℕ, ◌++◌, ◌≤◌, List, length, sym, subst, arith, rules}
use Rattle.std.proofs.lemmas.List.{take_rest, length-drop}
use Rattle.volume_block.specs.Chunks.{ChunkText, IsChunk, chunk_text}
use Rattle.volume_block.proofs.Splits.{one_more, no_chunks, no_chunks_in_none, all_chunks}
use Rattle.volume_block.proofs.chunks.are_chunks.Invariants.{RestIsKept}
use Rattle.volume_block.proofs.chunks.are_chunks.Goals as goal

pub returns-in_default : goal.returns-in_default
returns-in_default c =
    let rest = c.loop-rest.rest.now in
    let some : 1 ≤ length rest = search rules in
    let none : (chunk : ChunkText) (tail : List ℕ) → IsChunk chunk → rest ≢ chunk_text chunk ++ tail = c.in_default.ensures in
    λ units fits. (λ no. absurd (cc), λ found. absurd (no_chunks c.args.payload.now rest none some c.loop-rest.invariant.split units found.0 found.1))

pub loop-rest-preserved : goal.loop-rest-preserved
loop-rest-preserved c =
    let rest = c.loop-rest.rest.now in
    let first = c.in-Some.ensures in
    let Kept : List ℕ → Type 0 = λ (r : List ℕ). RestIsKept c.args.payload.now r in
    subst Kept (sym (take_rest rest c.in-Some.size)) (record {
      split = one_more c.args.payload.now rest c.in-Some.size first.0 c.loop-rest.invariant.fits first.1 c.loop-rest.invariant.split;
      fits = omega (arith, length-drop c.in-Some.size rest, c.loop-rest.invariant.fits);
    })

pub returns : goal.returns
returns c =
    let payload = c.args.payload.now in
    let ended : length c.loop-rest.rest.now ≡ 0 = search rules in
    λ units fits. (
      λ yes. let some : 1 ≤ length payload = search rules in all_chunks units payload c.loop-rest.rest.now fits some ended c.loop-rest.invariant.split,
      λ found. let some : length payload ≢ 0 = λ none. no_chunks_in_none payload none units found.0 found.1 in search rules,
    )
