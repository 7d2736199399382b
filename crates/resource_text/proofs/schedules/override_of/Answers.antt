use Rattle.std.proofs.Common.{◌≡◌, Some, subst, rules}
use Rattle.toml.specs.Data.{as_str}
use Rattle.toml.specs.View.{view}
use Rattle.resource_text.specs.Words.{IsActionWord}
use Rattle.resource_text.proofs.Entries.{one_text}
use Rattle.resource_text.proofs.schedules.override_of.Goals as goal

pub returns-in_err-day : goal.returns-in_err-day
returns-in_err-day c = rw c.from_residual-in_err-day.ensures
    (λ one is. let (word, value, day, action) = is in c.in_err-day.ensures one.day day)

pub returns-in_err-action : goal.returns-in_err-action
returns-in_err-action c =
    let text : as_str (view c.args.action.now) ≡ Some c.in_ok-word.word.now = search (rules, c.as_str.ensures, c.in_ok-word.was) in
    rw c.from_residual-in_err-action.ensures
    (λ one is. let (word, value, day, action) = is in
    c.in_err-action.ensures one.action
    (subst (λ other. IsActionWord other one.action) (one_text (view c.args.action.now) c.in_ok-word.word.now word text value) action))
