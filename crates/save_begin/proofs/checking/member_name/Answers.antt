use Rattle.std.proofs.Common.{◌≡◌, ◌∙◌, ap, List, ℕ, ◌∷◌, ◌++◌}
use Rattle.std.specs.Prelude.{IfOk, Result, Ok, Err}
use Rattle.save_begin.specs.Asking.{member_name}
use Rattle.save_begin.proofs.checking.member_name.Goals as goal

ok_then : {T E : Type 0} (P Q : T → Type 0) (r : Result T E) → ((x : T) → P x → Q x) → IfOk r P → IfOk r Q
ok_then P Q (Ok x) then is = then x is
ok_then P Q (Err e) then is = is

pub returns-in-Ok : goal.returns-in-Ok
returns-in-Ok c =
    let text = c.as_str.ensures.value ∙ c.in-Ok.ensures.ok
    ∙ ap (λ (front : List ℕ). front ++ 58 ∷ c.as_str-set.result.now) c.as_str-client.ensures
    ∙ ap (λ (back : List ℕ). c.args.asked.now.client ++ 58 ∷ back) c.as_str-set.ensures in
    ok_then (λ name. name ≡ c.as_str.result.now) (λ name. name ≡ member_name c.args.asked.now) c.from_text.result (λ name is. is ∙ text) c.from_text.ensures
