use Rattle.std.proofs.Common.{◌+◌, subst, sym, take}
use Rattle.client_index.specs.View.{chain_of}
use Rattle.client_index.specs.Walk.{rests_of}
use Rattle.client_index.proofs.Walked.{Begins, begins_with, begins_without, rests-push}
use Rattle.client_index.proofs.index.ClientIndex.rests_after.Goals as goal
use Rattle.client_index.proofs.index.ClientIndex.rests_after.Goals.{in-Some+in_ok-push, in_default}

pub loop-owner-preserved : goal.loop-owner-preserved
loop-owner-preserved c =
    let i = c.loop-owner.owner-index in
    let all = chain_of c.args.self.now.sets (take (i + 1) c.args.chain.now) in
    let left = rests_of c.loop-owner.rests.items in
    elim c.match-entries.branch [
      | in-Some+in_ok-push w ↦
          rw w.rests-is (subst (Begins c.args.after.now all) (sym (rests-push c.loop-owner.rests.items _ w.new.result _ w.in_ok-push.ensures.items w.new.ensures))
          (begins_with c.args.after.now _ c.args.chain.now i _ left _ _ c.loop-owner-test.true w.in-Some.ensures.value w.entries_after.ensures c.loop-owner.invariant))
      | in_default w ↦ rw w.rests-is (begins_without c.args.after.now _ c.args.chain.now i _ left c.loop-owner-test.true w.in_default.ensures.value c.loop-owner.invariant)
    ]
