use Rattle.std.proofs.Common.{◌∙◌, ap, arith}
use Rattle.std.proofs.lemmas.List.{length-map}
use Rattle.client_index.specs.Walk.{rest_of, rests_of, past_in}
use Rattle.std.specs.Prelude.{map}
use Rattle.client_index.proofs.Passing.{passed_more, passed_all, written_back}
use Rattle.client_index.proofs.walk.pass_each.Goals as goal

pub returns : goal.returns
returns c =
    let start = c.deref_mut-rest-items.result.now in
    let all = passed_all c.args.path.now (rests_of start) c.loop-rest.rest-items c.loop-rest.rest-index (omega (arith, length-map start rest_of)) c.loop-rest.invariant in
    let back = written_back c.loop-rest.rest-items c.args.rests.now.items c.args.rests.now.len (omega (arith, c.args.rests.now.ok.0)) (omega (arith, c.args.rests.now.ok.0)) in
    ap rests_of back ∙ all ∙ ap (λ items. map (past_in c.args.path.now) (rests_of items)) c.deref_mut-rest-items.ensures.value

pub loop-rest-preserved : goal.loop-rest-preserved
loop-rest-preserved c =
    let start = c.deref_mut-rest-items.result.now in
    passed_more c.args.path.now (rests_of start) c.loop-rest.rest-items c.loop-rest.rest-index c.rest-item.result c.past.result
    (omega arith) (omega (arith, length-map start rest_of)) c.loop-rest.invariant c.past.ensures
