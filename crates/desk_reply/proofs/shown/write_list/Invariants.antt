use Rattle.std.proofs.Common.{◌≡◌, [], ◌∷◌, ◌++◌, take}
use Rattle.std.specs.List.{flat_map}
use Rattle.json.specs.Token.{begin_array}
use Rattle.json.specs.Tree.{json_tokens}
use Rattle.desk_reply.proofs.shown.write_list.Given as goal

abbrev pub invariant-loop-one : goal.invariant-loop-one
invariant-loop-one g l = record {
  tokens : l.out.tokens ≡ (l.fn.out.tokens ++ begin_array ∷ []) ++ flat_map (λ x. json_tokens (g.T.Shown.json x)) (take l.one-index l.list);
  before : l.out.before ≡ l.fn.out.before;
}
