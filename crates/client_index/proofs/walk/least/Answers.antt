use Rattle.std.proofs.Common.{subst, sym, ap, ◌∙◌, ◌++◌, ◌∷◌, [], take}
use Rattle.client_index.specs.Walk.{IsLeast, rest_of, rests_of, lent}
use Rattle.client_index.proofs.Deciding.{least_more}
use Rattle.client_index.proofs.Passing.{seen_more, each-seen}
use Rattle.client_index.proofs.walk.least.Goals as goal

pub loop-rest-preserved : goal.loop-rest-preserved
loop-rest-preserved c =
    let rests = c.args.rests.now in
    let before = rests_of (take c.loop-rest.rest-index rests) in
    let here = c.rest-item.result in
    let more = seen_more rests c.loop-rest.rest-index here c.loop-rest-test.true ∙ ap (λ rest. before ++ rest_of rest ∷ []) (sym c.rest-item.is) in
    let step = least_more before here.owner here.entries.now (lent c.loop-rest.least) (each-seen rests c.loop-rest.rest-index c.requires) c.loop-rest.invariant in
    subst (λ sets. IsLeast sets (lent c.lesser-least.result)) (sym more) (subst (IsLeast (before ++ rest_of here ∷ [])) (sym c.lesser-least.ensures) step)
