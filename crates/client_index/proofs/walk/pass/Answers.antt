use Rattle.std.proofs.Common.{rules}
use Rattle.std.proofs.lemmas.Fn.{filter_same}
use Rattle.client_index.specs.Walk.{rests_of}
use Rattle.client_index.proofs.Passing.{is_left, passed_left}
use Rattle.client_index.proofs.walk.pass.Goals as goal

pub returns : goal.returns
returns c =
    let kept = filter_same _ is_left _ (λ x b f' called. (search rules, search rules)) _ _ c.retain.ensures.filtered in
    passed_left c.args.path.now (rests_of c.args.rests.now.items) _ _ c.pass_each.ensures kept
