use Rattle.std.proofs.Common.{◌<◌, ◌∙◌, ℕ, List, length, ap, arith, subst, sym}
use Rattle.client_index.specs.declared.seen.Seen.{Seen}
use Rattle.client_index.specs.View.{chain_of, seen_of}
use Rattle.client_index.specs.Walk.{passed, rests_of}
use Rattle.client_index.proofs.Passing.{total, fewer_left}
use Rattle.client_index.proofs.Walked.{Walked, walk_begins, walk_on, walk_is_full, walk_is_over, each-alone, length-added}
use Rattle.client_index.proofs.index.ClientIndex.view_after.Goals as goal

pub loop-rests-init : goal.loop-rests-init
loop-rests-init c = record {
  walked = rw c.new-answer.ensures.items (walk_begins _ _ c.args.after.now c.in_ok-rests.ensures.ascend c.in_ok-rests.ensures.same);
  count = rw c.new-answer.ensures.items (omega arith);
}

pub least-requires : goal.least-requires
least-requires c = rw c.deref.ensures.value (each-alone c.loop-rests.invariant.walked.low _ c.loop-rests.invariant.walked.ascend)

pub returns-in_default : goal.returns-in_default
returns-in_default c =
    walk_is_over _ (rests_of c.loop-rests.rests.items) _ _ _ c.loop-rests.invariant.walked c.loop-rests.invariant.count (rw c.deref.ensures.value at c.in_default.ensures)

pub loop-rests-smaller : goal.loop-rests-smaller
loop-rests-smaller c =
    let path = c.in-Some.entry.now.path in
    let left = rests_of c.loop-rests.rests.items in
    let least = rw c.deref.ensures.value at c.in-Some.ensures in
    let is = c.pass.ensures ∙ ap (λ p. passed p left) c.as_bytes.ensures.value in
    subst (λ sets. total sets < total left) (sym is) (fewer_left path left _ (each-alone c.loop-rests.invariant.walked.low left c.loop-rests.invariant.walked.ascend) least.1 least.0)

pub loop-rests-preserved : goal.loop-rests-preserved
loop-rests-preserved c =
    let all = chain_of c.args.self.now.sets c.args.chain.now in
    let left = rests_of c.loop-rests.rests.items in
    let answer = c.loop-rests.answer.items in
    let owner = c.in-Some.owner in
    let entry = c.in-Some.entry.now in
    let least = rw c.deref.ensures.value at c.in-Some.ensures in
    let is = c.pass.ensures ∙ ap (λ p. passed p left) c.as_bytes.ensures.value in
    let seen = c.in_ok-push_seen.ensures in
    record {
      walked = subst (λ sets. Walked all sets c.args.after.now c.push_seen.new.answer.items) (sym is)
          (subst (Walked all (passed entry.path left) c.args.after.now) (sym seen) (walk_on all left c.args.after.now answer c.loop-rests.invariant.walked owner entry least));
      count = omega (arith, ap (λ (xs : List (List ℕ × Seen)). length xs) seen, length-added entry.path (seen_of owner entry) answer);
    }

pub returns : goal.returns
returns c = walk_is_full _ (rests_of c.loop-rests.rests.items) _ _ _ c.loop-rests.invariant.walked c.loop-rests.invariant.count (omega arith)
